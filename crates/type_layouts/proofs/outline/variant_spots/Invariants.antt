use Rattle.std.proofs.Common.{◌≡◌, ◌++◌, drop, map}
use Rattle.type_layouts.specs.Outlines.{variant_spots, variants_in_order}
use Rattle.type_layouts.proofs.outline.variant_spots.Given as goal

abbrev pub invariant-loop-variant : goal.invariant-loop-variant
invariant-loop-variant l = record {
  spots : l.groups ++ map (variant_spots l.scope) (drop l.variant-index l.variants) ≡ map (variant_spots l.scope) l.variants;
  done : variants_in_order l.scope l.done (drop l.variant-index l.variants) ≡ variants_in_order l.scope l.initial.done l.variants;
}

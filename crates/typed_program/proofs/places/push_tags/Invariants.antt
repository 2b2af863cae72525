use Rattle.std.proofs.Common.{◌≡◌, ◌++◌, drop, map}
use Rattle.typed_program.specs.Places.{variant_tag}
use Rattle.typed_program.proofs.places.push_tags.Given as goal

abbrev pub invariant-loop-variant : goal.invariant-loop-variant
invariant-loop-variant l = l.tags ++ map variant_tag (drop l.variant-index l.variants) ≡ l.initial.tags ++ map variant_tag l.variants

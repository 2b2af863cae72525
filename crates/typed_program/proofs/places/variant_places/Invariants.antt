use Rattle.std.proofs.Common.{◌≡◌, ◌++◌, drop, map}
use Rattle.typed_program.specs.Places.{variant_places}
use Rattle.typed_program.proofs.places.variant_places.Given as goal

abbrev pub invariant-loop-variant : goal.invariant-loop-variant
invariant-loop-variant l = l.all ++ map variant_places (drop l.variant-index l.variants) ≡ map variant_places l.variants

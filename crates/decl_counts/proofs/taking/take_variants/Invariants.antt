use Rattle.std.proofs.Common.{◌≡◌, ◌+◌, drop, flat_map, length}
use Rattle.mir_program.specs.Joined.{written}
use Rattle.mir_program.specs.Mentions.{variant_types}
use Rattle.decl_counts.proofs.taking.take_variants.Given as goal

abbrev pub invariant-loop-variant : goal.invariant-loop-variant
invariant-loop-variant l = l.rest + length (flat_map (variant_types written) l.variants) ≡ l.initial.rest + length (flat_map (variant_types written) (drop l.variant-index l.variants))

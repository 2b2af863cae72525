use Rattle.std.proofs.Common.{◌≡◌, ◌+◌, drop, flat_map, length}
use Rattle.mir_program.specs.Joined.{written}
use Rattle.mir_program.specs.Mentions.{place_types}
use Rattle.decl_counts.proofs.taking.take_places.Given as goal

abbrev pub invariant-loop-place : goal.invariant-loop-place
invariant-loop-place l = l.rest + length (flat_map (place_types written) l.places) ≡ l.initial.rest + length (flat_map (place_types written) (drop l.place-index l.places))

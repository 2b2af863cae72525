use Rattle.std.proofs.Common.{◌≡◌, ◌+◌, drop, flat_map, length}
use Rattle.mir_program.specs.Joined.{written}
use Rattle.mir_program.specs.Mentions.{constant_types}
use Rattle.decl_counts.proofs.taking.take_constants.Given as goal

abbrev pub invariant-loop-constant : goal.invariant-loop-constant
invariant-loop-constant l = l.rest + length (flat_map (constant_types written) l.constants) ≡ l.initial.rest + length (flat_map (constant_types written) (drop l.constant-index l.constants))

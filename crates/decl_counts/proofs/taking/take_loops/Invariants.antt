use Rattle.std.proofs.Common.{◌≡◌, ◌+◌, drop, flat_map, length}
use Rattle.mir_program.specs.Joined.{written}
use Rattle.mir_program.specs.Mentions.{loop_types}
use Rattle.decl_counts.proofs.taking.take_loops.Given as goal

abbrev pub invariant-loop-rule : goal.invariant-loop-rule
invariant-loop-rule l = l.rest + length (flat_map (loop_types written) l.loops) ≡ l.initial.rest + length (flat_map (loop_types written) (drop l.rule-index l.loops))

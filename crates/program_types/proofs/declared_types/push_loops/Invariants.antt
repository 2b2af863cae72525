use Rattle.std.proofs.Common.{◌≡◌, ◌++◌, drop, flat_map}
use Rattle.mir_program.specs.Mentions.{loop_types}
use Rattle.program_types.specs.Mentioned.{written_at}
use Rattle.program_types.proofs.declared_types.push_loops.Given as goal

abbrev pub invariant-loop-item : goal.invariant-loop-item
invariant-loop-item l = l.out ++ flat_map (loop_types written_at) (drop l.item-index l.items) ≡ l.initial.out ++ flat_map (loop_types written_at) l.items

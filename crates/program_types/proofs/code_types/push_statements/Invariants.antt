use Rattle.std.proofs.Common.{◌≡◌, ◌++◌, drop, flat_map}
use Rattle.mir_program.specs.Mentions.{statement_types}
use Rattle.program_types.specs.Mentioned.{written_at}
use Rattle.program_types.proofs.code_types.push_statements.Given as goal

abbrev pub invariant-loop-item : goal.invariant-loop-item
invariant-loop-item l = l.out ++ flat_map (statement_types written_at) (drop l.item-index l.items) ≡ l.initial.out ++ flat_map (statement_types written_at) l.items

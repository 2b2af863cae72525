use Rattle.std.proofs.Common.{◌≡◌, ◌++◌, drop, flat_map}
use Rattle.mir_program.specs.Mentions.{operand_types}
use Rattle.program_types.specs.Mentioned.{written_at}
use Rattle.program_types.proofs.code_types.push_operands.Given as goal

abbrev pub invariant-loop-item : goal.invariant-loop-item
invariant-loop-item l = l.out ++ flat_map (operand_types written_at) (drop l.item-index l.items) ≡ l.initial.out ++ flat_map (operand_types written_at) l.items

use Rattle.std.proofs.Common.{◌≡◌, ◌++◌, drop}
use Rattle.canonical_text.specs.Operands.{more_operands}
use Rattle.canonical_text.proofs.operands.push_more_operands.Given as goal

abbrev pub invariant-loop-operand : goal.invariant-loop-operand
invariant-loop-operand l = l.out.items ++ more_operands (drop l.operand-index l.operands) ≡ l.initial.out.items ++ more_operands l.operands

use Rattle.std.proofs.Common.{◌≡◌, ◌-◌, ◌&&◌, drop, length}
use Rattle.type_rules.specs.Operands.{operand_type}
use Rattle.type_rules.specs.Types.{same_types}
use Rattle.code_types.specs.Lists.{operands_same}
use Rattle.code_types.proofs.ListLaws.{tested}
use Rattle.code_types.proofs.lists.operands_same.Given as goal

abbrev pub invariant-loop-place : goal.invariant-loop-place
invariant-loop-place l =
    tested (operand_type l.declared l.body) (λ ts. l.same && same_types ts (drop l.place l.types)) (drop l.place l.operands) ≡ operands_same l.declared l.body l.operands l.types

abbrev pub decreases-loop-place : goal.decreases-loop-place
decreases-loop-place l = length l.operands - l.place

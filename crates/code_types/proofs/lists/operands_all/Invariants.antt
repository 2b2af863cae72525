use Rattle.std.proofs.Common.{◌≡◌, ◌-◌, ◌&&◌, drop, length}
use Rattle.type_rules.specs.Operands.{operand_type}
use Rattle.type_rules.specs.Rvalues.{all_of}
use Rattle.code_types.specs.Lists.{operands_all}
use Rattle.code_types.proofs.ListLaws.{tested}
use Rattle.code_types.proofs.lists.operands_all.Given as goal

abbrev pub invariant-loop-place : goal.invariant-loop-place
invariant-loop-place l =
    tested (operand_type l.declared l.body) (λ ts. l.same && all_of l.item ts) (drop l.place l.operands) ≡ operands_all l.declared l.body l.operands l.item

abbrev pub decreases-loop-place : goal.decreases-loop-place
decreases-loop-place l = length l.operands - l.place

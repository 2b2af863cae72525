use Rattle.std.proofs.Common.{◌≡◌, ◌-◌, drop, length}
use Rattle.code_types.specs.Lists.{operands_typed}
use Rattle.code_types.proofs.lists.operands_typed.Given as goal

abbrev pub invariant-loop-place : goal.invariant-loop-place
invariant-loop-place l = operands_typed l.declared l.body (drop l.place l.operands) ≡ operands_typed l.declared l.body l.operands

abbrev pub decreases-loop-place : goal.decreases-loop-place
decreases-loop-place l = length l.operands - l.place

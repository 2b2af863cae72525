use Rattle.std.proofs.Common.{◌≡◌, ◌-◌, drop, length}
use Rattle.type_rules.specs.Code.{operands_fit}
use Rattle.function_types.proofs.terminators.operands_fit.Given as goal

abbrev pub invariant-loop-place : goal.invariant-loop-place
invariant-loop-place l = operands_fit l.declared l.body (drop l.place l.operands) ≡ operands_fit l.declared l.body l.operands

abbrev pub decreases-loop-place : goal.decreases-loop-place
decreases-loop-place l = length l.operands - l.place

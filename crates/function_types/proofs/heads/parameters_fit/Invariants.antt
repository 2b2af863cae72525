use Rattle.std.proofs.Common.{◌≡◌, ◌+◌, ◌-◌, drop, length}
use Rattle.function_types.specs.Steps.{parameters_fit}
use Rattle.function_types.proofs.heads.parameters_fit.Given as goal

abbrev pub invariant-loop-place : goal.invariant-loop-place
invariant-loop-place l = parameters_fit l.declared (l.place + 1) (drop l.place l.locals) ≡ parameters_fit l.declared 1 l.locals

abbrev pub decreases-loop-place : goal.decreases-loop-place
decreases-loop-place l = length l.locals - l.place

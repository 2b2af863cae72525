use Rattle.std.proofs.Common.{◌≡◌, ◌-◌, drop, length}
use Rattle.function_types.specs.Steps.{others_fit}
use Rattle.function_types.proofs.heads.others_fit.Given as goal

abbrev pub invariant-loop-place : goal.invariant-loop-place
invariant-loop-place l = others_fit l.declared l.result_ty (drop l.place l.locals) ≡ others_fit l.declared l.result_ty l.locals

abbrev pub decreases-loop-place : goal.decreases-loop-place
decreases-loop-place l = length l.locals - l.place

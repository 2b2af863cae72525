use Rattle.std.proofs.Common.{◌≡◌, ◌-◌, [], drop, length}
use Rattle.type_rules.specs.Code.{arms_fit}
use Rattle.function_types.proofs.arms.arms_fit.Given as goal

abbrev pub invariant-loop-place : goal.invariant-loop-place
invariant-loop-place l = arms_fit l.body l.width l.before.keys (drop l.place l.arms) ≡ arms_fit l.body l.width [] l.arms

abbrev pub decreases-loop-place : goal.decreases-loop-place
decreases-loop-place l = length l.arms - l.place

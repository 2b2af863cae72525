use Rattle.std.proofs.Common.{◌≡◌, length}
use Rattle.scalar_checks.specs.Checks.{some_names_place}
use Rattle.scalar_checks.proofs.checks.some_names_place.Given as goal

abbrev pub invariant-loop-left : goal.invariant-loop-left
invariant-loop-left l = some_names_place l.left ≡ some_names_place l.operands

abbrev pub decreases-loop-left : goal.decreases-loop-left
decreases-loop-left l = length l.left

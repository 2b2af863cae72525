use Rattle.std.proofs.Common.{◌≡◌, length}
use Rattle.scalar_form.specs.Typing.{are_arms}
use Rattle.scalar_form.proofs.typing.are_arms.Given as goal

abbrev pub invariant-loop-left : goal.invariant-loop-left
invariant-loop-left l = are_arms l.function l.from l.width l.left ≡ are_arms l.function l.from l.width l.arms

abbrev pub decreases-loop-left : goal.decreases-loop-left
decreases-loop-left l = length l.left

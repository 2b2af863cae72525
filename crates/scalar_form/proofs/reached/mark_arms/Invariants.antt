use Rattle.std.proofs.Common.{◌≡◌, length}
use Rattle.scalar_form.specs.Size.{marked_arms}
use Rattle.scalar_form.proofs.reached.mark_arms.Given as goal

abbrev pub invariant-loop-left : goal.invariant-loop-left
invariant-loop-left l = marked_arms l.marks l.left ≡ marked_arms l.fn.marks l.arms

abbrev pub decreases-loop-left : goal.decreases-loop-left
decreases-loop-left l = length l.left

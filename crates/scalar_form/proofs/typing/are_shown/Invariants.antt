use Rattle.std.proofs.Common.{◌≡◌, length}
use Rattle.scalar_form.specs.Typing.{are_shown}
use Rattle.scalar_form.proofs.typing.are_shown.Given as goal

abbrev pub invariant-loop-left : goal.invariant-loop-left
invariant-loop-left l = are_shown l.function l.left ≡ are_shown l.function l.operands

abbrev pub decreases-loop-left : goal.decreases-loop-left
decreases-loop-left l = length l.left

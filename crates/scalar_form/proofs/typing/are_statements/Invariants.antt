use Rattle.std.proofs.Common.{◌≡◌, length}
use Rattle.scalar_form.specs.Typing.{are_statements}
use Rattle.scalar_form.proofs.typing.are_statements.Given as goal

abbrev pub invariant-loop-left : goal.invariant-loop-left
invariant-loop-left l = are_statements l.function l.left ≡ are_statements l.function l.statements

abbrev pub decreases-loop-left : goal.decreases-loop-left
decreases-loop-left l = length l.left

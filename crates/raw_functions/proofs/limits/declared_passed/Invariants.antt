use Rattle.std.proofs.Common.{◌≡◌, length}
use Rattle.mir_grammar.specs.Places.{both_passed}
use Rattle.raw_functions.specs.Limits.{declared_passed}
use Rattle.raw_functions.proofs.limits.declared_passed.Given as goal

abbrev pub invariant-loop-left : goal.invariant-loop-left
invariant-loop-left l = both_passed l.passed (declared_passed l.left) ≡ declared_passed l.declared

abbrev pub decreases-loop-left : goal.decreases-loop-left
decreases-loop-left l = length l.left

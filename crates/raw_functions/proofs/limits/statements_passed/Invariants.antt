use Rattle.std.proofs.Common.{◌≡◌, length}
use Rattle.mir_grammar.specs.Places.{both_passed}
use Rattle.mir_grammar.specs.Values.{all_passed}
use Rattle.raw_functions.proofs.limits.statements_passed.Given as goal

abbrev pub invariant-loop-left : goal.invariant-loop-left
invariant-loop-left l = both_passed l.passed (all_passed l.left) ≡ all_passed l.statements

abbrev pub decreases-loop-left : goal.decreases-loop-left
decreases-loop-left l = length l.left

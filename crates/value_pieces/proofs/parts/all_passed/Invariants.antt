use Rattle.std.proofs.Common.{◌≡◌, length}
use Rattle.mir_grammar.specs.Places.{both_passed}
use Rattle.mir_grammar.specs.Values.{all_passed}
use Rattle.value_pieces.proofs.parts.all_passed.Given as goal

abbrev pub invariant-loop-left : goal.invariant-loop-left
invariant-loop-left g l = both_passed l.passed (all_passed l.left) ≡ all_passed l.parts

abbrev pub decreases-loop-left : goal.decreases-loop-left
decreases-loop-left g l = length l.left

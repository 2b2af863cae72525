use Rattle.std.proofs.Common.{◌≡◌, length}
use Rattle.mir_grammar.specs.Places.{both_passed}
use Rattle.raw_functions.specs.Limits.{blocks_passed}
use Rattle.raw_functions.proofs.limits.blocks_passed.Given as goal

abbrev pub invariant-loop-left : goal.invariant-loop-left
invariant-loop-left l = both_passed l.passed (blocks_passed l.left) ≡ blocks_passed l.blocks

abbrev pub decreases-loop-left : goal.decreases-loop-left
decreases-loop-left l = length l.left

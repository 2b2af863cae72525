use Rattle.std.proofs.Common.{◌≡◌, length}
use Rattle.raw_functions.specs.Doubles.{earlier, second_inside}
use Rattle.raw_functions.proofs.doubles.second_inside.Given as goal

abbrev pub invariant-loop-left : goal.invariant-loop-left
invariant-loop-left l = earlier l.second (second_inside l.left) ≡ second_inside l.functions

abbrev pub decreases-loop-left : goal.decreases-loop-left
decreases-loop-left l = length l.left

use Rattle.std.proofs.Common.{◌≡◌, length}
use Rattle.raw_functions.specs.Meant.{result_type}
use Rattle.raw_functions.proofs.locals.result_type.Given as goal

abbrev pub invariant-loop-left : goal.invariant-loop-left
invariant-loop-left l = result_type l.written l.left ≡ result_type l.written l.items

abbrev pub decreases-loop-left : goal.decreases-loop-left
decreases-loop-left l = length l.left

use Rattle.std.proofs.Common.{◌≡◌, length}
use Rattle.raw_functions.specs.Doubles.{function_spots}
use Rattle.raw_functions.specs.Noted.{none_noted, all_noted}
use Rattle.raw_functions.proofs.doubles.second_function.Given as goal

abbrev pub invariant-loop-left : goal.invariant-loop-left
invariant-loop-left l = all_noted l.names (function_spots l.left) ≡ all_noted none_noted (function_spots l.functions)

abbrev pub decreases-loop-left : goal.decreases-loop-left
decreases-loop-left l = length l.left

use Rattle.std.proofs.Common.{◌≡◌, length}
use Rattle.raw_functions.specs.Doubles.{label_spots}
use Rattle.raw_functions.specs.Noted.{none_noted, all_noted}
use Rattle.raw_functions.proofs.doubles.second_label.Given as goal

abbrev pub invariant-loop-left : goal.invariant-loop-left
invariant-loop-left l = all_noted l.names (label_spots l.left) ≡ all_noted none_noted (label_spots l.blocks)

abbrev pub decreases-loop-left : goal.decreases-loop-left
decreases-loop-left l = length l.left

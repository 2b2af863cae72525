use Rattle.std.proofs.Common.{◌≡◌, length}
use Rattle.raw_functions.specs.Doubles.{local_spots}
use Rattle.raw_functions.specs.Noted.{all_noted}
use Rattle.raw_functions.proofs.doubles.note_locals.Given as goal

abbrev pub invariant-loop-left : goal.invariant-loop-left
invariant-loop-left l = all_noted l.names (local_spots l.left) ≡ all_noted l.initial.names (local_spots l.locals)

abbrev pub decreases-loop-left : goal.decreases-loop-left
decreases-loop-left l = length l.left

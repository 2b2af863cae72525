use Rattle.std.proofs.Common.{◌≡◌, length}
use Rattle.grammar_words.specs.Classes.{has}
use Rattle.mir_pieces.proofs.sets.has.Given as goal

abbrev pub invariant-loop-left : goal.invariant-loop-left
invariant-loop-left l = has l.left l.class ≡ has l.set l.class

abbrev pub decreases-loop-left : goal.decreases-loop-left
decreases-loop-left l = length l.left

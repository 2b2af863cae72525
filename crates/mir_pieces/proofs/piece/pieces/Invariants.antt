use Rattle.std.proofs.Common.{◌≡◌, ◌++◌, length}
use Rattle.mir_lex.specs.Views.{AreSlices}
use Rattle.mir_pieces.specs.Seen.{lexemes}
use Rattle.mir_pieces.proofs.piece.pieces.Given as goal

abbrev pub invariant-loop-left : goal.invariant-loop-left
invariant-loop-left l = (l.pieces.items ++ lexemes l.source l.left ≡ lexemes l.source l.tokens) × AreSlices l.source l.left

abbrev pub decreases-loop-left : goal.decreases-loop-left
decreases-loop-left l = length l.left

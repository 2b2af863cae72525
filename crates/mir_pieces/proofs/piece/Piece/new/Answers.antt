use Rattle.std.proofs.Common.{◌∙◌}
use Rattle.mir_pieces.proofs.Classing.{class_is}
use Rattle.mir_pieces.proofs.piece.Piece.new.Goals as goal

pub invariant_of-result : goal.invariant_of-result
invariant_of-result c = (c.class_in.ensures ∙ class_is c.args.kind c.args.text.now c.args.start, c.requires)

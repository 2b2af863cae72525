use Rattle.mir_pieces.proofs.Small.{first_small}
use Rattle.mir_pieces.proofs.piece.pieces.Goals as goal

pub new-requires : goal.new-requires
new-requires c = first_small c.args.source.now _ c.loop-left.left.now c.text.result.now c.in-len1-up.len_at_least c.loop-left.invariant.1 c.text.ensures

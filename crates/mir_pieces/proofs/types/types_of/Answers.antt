use Rattle.mir_pieces.proofs.Tupling.{types_more}
use Rattle.mir_pieces.proofs.types.types_of.Goals as goal

pub loop-named-preserved : goal.loop-named-preserved
loop-named-preserved c = types_more _ _ _ _ _ c.loop-named.invariant c.type_of.ensures c.in_ok-push.ensures.items

use Rattle.value_pieces.proofs.PartLaws.{values_more}
use Rattle.value_pieces.proofs.parts.values_of.Goals as goal

pub loop-part-preserved : goal.loop-part-preserved
loop-part-preserved g c = values_more _ _ _ c.in-Some.part _ _ _ c.in-Some.ensures c.value_of.ensures c.in_ok-push.ensures.items c.loop-part.invariant

use Rattle.entry_types.proofs.Bodies.{copied_all, copied_more}
use Rattle.entry_types.proofs.functions.bodies_of.Goals as goal

pub loop-at-preserved : goal.loop-at-preserved
loop-at-preserved c =
    copied_more c.args.functions.now c.loop-at.at c.index-functions-at.result _ _ _ c.loop-at-test.true c.index-functions-at.is
    c.in_ok-body.ensures c.in_ok-push.ensures.items c.loop-at.invariant

pub returns : goal.returns
returns c = copied_all c.args.functions.now _ c.loop-at.at c.loop-at-test.false c.loop-at.invariant

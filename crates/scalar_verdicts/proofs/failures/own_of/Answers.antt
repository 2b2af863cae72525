use Rattle.scalar_verdicts.proofs.FailureLaws.{picked_all, picked_more}
use Rattle.scalar_verdicts.proofs.failures.own_of.Goals as goal

pub loop-failure-preserved : goal.loop-failure-preserved
loop-failure-preserved c = picked_more _ _ _ _ _ _ c.loop-failure-test.true c.loop-failure.invariant c.in_ok-put_own.ensures

pub returns : goal.returns
returns c = picked_all _ _ _ _ c.loop-failure-test.false c.loop-failure.invariant

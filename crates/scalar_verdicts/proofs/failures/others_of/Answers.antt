use Rattle.scalar_verdicts.proofs.FailureLaws.{sifted_all, sifted_more}
use Rattle.scalar_verdicts.proofs.failures.others_of.Goals as goal

pub loop-failure-preserved : goal.loop-failure-preserved
loop-failure-preserved c = sifted_more _ _ _ _ _ _ c.loop-failure-test.true c.loop-failure.invariant c.in_ok-put_other.ensures

pub returns : goal.returns
returns c = sifted_all _ _ _ _ c.loop-failure-test.false c.loop-failure.invariant

use Rattle.scalar_verdicts.proofs.FailureLaws.{sum_all, sum_more, sum_next, sum_start}
use Rattle.scalar_verdicts.proofs.failures.any_of.Goals as goal

pub loop-failure-init : goal.loop-failure-init
loop-failure-init c = sum_start _ _ _ _ c.in_ok-root.ensures c.requires

pub either-requires-clause-a_bit : goal.either-requires-clause-a_bit
either-requires-clause-a_bit c = c.loop-failure.invariant.bit

pub either-requires-clause-b_bit : goal.either-requires-clause-b_bit
either-requires-clause-b_bit c = sum_next _ _ _ _ _ _ c.loop-failure-test.true c.loop-failure.invariant

pub loop-failure-preserved : goal.loop-failure-preserved
loop-failure-preserved c = sum_more _ _ _ _ _ _ _ _ c.loop-failure-test.true c.loop-failure.invariant c.in_ok-root-2.ensures

pub returns : goal.returns
returns c = sum_all _ _ _ _ _ c.loop-failure-test.false c.loop-failure.invariant

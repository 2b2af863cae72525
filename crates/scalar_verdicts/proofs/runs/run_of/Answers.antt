use Rattle.std.proofs.Common.{refl}
use Rattle.scalar_verdicts.proofs.RunListLaws.{passed_here, passed_more}
use Rattle.scalar_verdicts.proofs.runs.run_of.Goals as goal

pub returns-then-is_same : goal.returns-then-is_same
returns-then-is_same c = passed_here _ _ _ _ c.run-item.is c.loop-run-test.true c.loop-run.invariant (c.if-is_same.ensures.same refl)

pub loop-run-preserved : goal.loop-run-preserved
loop-run-preserved c = passed_more _ _ _ _ c.run-item.is c.loop-run-test.true c.loop-run.invariant (c.if-is_same.ensures.other refl)

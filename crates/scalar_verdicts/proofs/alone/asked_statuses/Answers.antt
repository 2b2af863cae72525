use Rattle.std.proofs.Common.{arith, refl}
use Rattle.scalar_verdicts.proofs.LeftLaws.{left_kept}
use Rattle.scalar_verdicts.proofs.StatusLaws.{asked_more}
use Rattle.scalar_verdicts.proofs.alone.asked_statuses.Goals as goal

pub loop-check-preserved : goal.loop-check-preserved
loop-check-preserved c = record {
  left = left_kept _ _ _ _ _ c.in_ok-outcome.ensures.grown c.loop-check.invariant.left;
  asked = asked_more _ _ _ _ _ _ _ _ _ _ c.loop-check.invariant.asked c.in_ok-outcome.ensures.told c.in_ok-outcome.ensures.paid c.in_ok-push.ensures.items refl;
  rises = omega (arith, c.loop-check.invariant.rises, c.in_ok-outcome.ensures.rises);
}

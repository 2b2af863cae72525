use Rattle.std.proofs.Common.{refl}
use Rattle.scalar_verdicts.proofs.StatusLaws.{known_more}
use Rattle.scalar_verdicts.proofs.outcomes.known_statuses.Goals as goal

pub loop-check-preserved : goal.loop-check-preserved
loop-check-preserved c = known_more _ _ _ _ _ _ c.loop-check.invariant c.in_ok-outcome.ensures c.in_ok-push.ensures.items refl

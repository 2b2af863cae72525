use Rattle.scalar_verdicts.proofs.StatusLaws.{fit_known, known_count}
use Rattle.scalar_verdicts.proofs.verify.found_statuses.Goals as goal

pub returns-clause-fit : goal.returns-clause-fit
returns-clause-fit c = fit_known _ _ _ _ _ c.requires.reached c.requires.covers c.in_ok-checks.ensures.list c.in_ok-statuses.ensures

pub returns-clause-none : goal.returns-clause-none
returns-clause-none c = known_count _ _ _ c.in_ok-statuses.ensures

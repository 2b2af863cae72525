use Rattle.scalar_verdicts.proofs.StatusLaws.{known_failure}
use Rattle.scalar_verdicts.proofs.outcomes.outcome_of.Goals as goal

pub returns-in_ok-outcome-in-Some : goal.returns-in_ok-outcome-in-Some
returns-in_ok-outcome-in-Some c = known_failure c.args.runs.now c.args.breach.now c.in-Some.run'.now c.in_ok-outcome-in-Some.outcome c.in-Some.ensures.0 c.in_ok-outcome-in-Some.ensures

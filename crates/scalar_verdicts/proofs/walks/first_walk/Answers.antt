use Rattle.scalar_verdicts.proofs.WalkLaws.{leads_start}
use Rattle.scalar_verdicts.proofs.walks.first_walk.Goals as goal

pub returns-clause-walk : goal.returns-clause-walk
returns-clause-walk c = leads_start _ _ _ c.in_ok-state.ensures

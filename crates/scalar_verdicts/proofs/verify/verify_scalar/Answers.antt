use Rattle.scalar_verdicts.proofs.LeftLaws.{inputs_start}
use Rattle.scalar_verdicts.proofs.StatusLaws.{unlimited_count}
use Rattle.scalar_verdicts.proofs.verify.verify_scalar.Goals as goal

pub find_runs-requires-clause-inputs : goal.find_runs-requires-clause-inputs
find_runs-requires-clause-inputs c = inputs_start _ _ _ c.in_ok-terms.ensures

pub asked_statuses-requires-clause-inputs : goal.asked_statuses-requires-clause-inputs
asked_statuses-requires-clause-inputs c = inputs_start _ _ _ c.in_ok-terms.ensures

pub returns-clause-unlimited : goal.returns-clause-unlimited
returns-clause-unlimited c more = unlimited_count c.args.function.now c.args.budget _ more c.in_ok-statuses-in-Some-2.ensures.asked.each

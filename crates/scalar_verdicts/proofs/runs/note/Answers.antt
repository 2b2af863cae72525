use Rattle.scalar_verdicts.proofs.RunListLaws.{noted_push}
use Rattle.scalar_verdicts.proofs.runs.note.Goals as goal

pub returns-in_ok-push : goal.returns-in_ok-push
returns-in_ok-push c = noted_push _ _ _ c.in_ok-push.ensures.items

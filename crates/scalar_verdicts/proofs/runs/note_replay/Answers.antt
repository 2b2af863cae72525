use Rattle.std.proofs.Common.{get_or, subst}
use Rattle.scalar_terms.specs.Replays.{IsReplay}
use Rattle.scalar_verdicts.proofs.RunListLaws.{replayed_none, replayed_some}
use Rattle.scalar_verdicts.proofs.runs.note_replay.Goals as goal

pub returns-in_ok-note-in-Some : goal.returns-in_ok-note-in-Some
returns-in_ok-note-in-Some c = replayed_some _ _ _ _ _ (subst (IsReplay c.args.function.now (λ n. get_or c.args.inputs.now n 0)) c.in-Some.is c.in_ok-run.ensures) c.in_ok-note-in-Some.ensures

pub returns-in-None : goal.returns-in-None
returns-in-None c = replayed_none _ _ _ (subst (IsReplay c.args.function.now (λ n. get_or c.args.inputs.now n 0)) c.in-None.is c.in_ok-run.ensures)

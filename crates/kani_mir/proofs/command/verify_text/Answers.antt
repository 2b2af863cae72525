use Rattle.std.proofs.Common.{subst}
use Rattle.kani_mir.specs.Command.{IsJudged}
use Rattle.kani_mir.proofs.CommandLemmas.{behind_judged, fits_read}
use Rattle.kani_mir.proofs.command.verify_text.Goals as goal

pub returns-in_ok-answer-in-Ok-clause-found : goal.returns-in_ok-answer-in-Ok-clause-found
returns-in_ok-answer-in-Ok-clause-found g c = behind_judged c.args.text.now c.in-Ok.bytes.items _ _ _ c.in_ok-answer-in-Ok.answer
    (fits_read _ c.in-Ok.bytes.items c.in-Ok.ensures.told c.in-Ok.ensures.within)
    (subst (λ d. IsJudged c.args.text.now d c.in_ok-answer-in-Ok.answer) c.as_slice.ensures.value c.in_ok-answer-in-Ok.ensures.answer)

use Rattle.scalar_terms.proofs.StepLaws.{noted_twice}
use Rattle.scalar_terms.proofs.steps.note_both.Goals as goal

pub returns : goal.returns
returns c = noted_twice c.args.terms.now c.args.failures.now.items _ _ _ _ c.args.t.unset c.args.t.unlawful c.in_ok-note.ensures c.in_ok-note-2.ensures

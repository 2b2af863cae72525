use Rattle.kani_mir.proofs.JudgeLemmas.{refused_by}
use Rattle.kani_mir.proofs.judge.judge.Goals as goal

pub returns-in-Err-clause-answer : goal.returns-in-Err-clause-answer
returns-in-Err-clause-answer c = refused_by c.args.mir.now c.args.declarations.now c.in_ok-refusal.field-0 c.in-Err.refusal c.in-Err.is c.in_ok-refusal.ensures

use Rattle.scalar_terms.proofs.WayLaws.{never_holds}
use Rattle.scalar_terms.proofs.failures.is_never.Goals as goal

pub returns-in-Constant : goal.returns-in-Constant
returns-in-Constant c zero inputs = never_holds c.args.terms.now c.args.term.0 c.in-Constant.word c.term.ensures.fitting c.in-Constant.ensures.term zero inputs

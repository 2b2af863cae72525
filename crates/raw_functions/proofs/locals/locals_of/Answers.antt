use Rattle.raw_functions.proofs.Meaning.{locals_more}
use Rattle.raw_functions.proofs.locals.locals_of.Goals as goal

pub loop-local-preserved : goal.loop-local-preserved
loop-local-preserved c = locals_more _ _ _ _ _ c.loop-local.invariant c.local_of.ensures c.in_ok-push.ensures.items

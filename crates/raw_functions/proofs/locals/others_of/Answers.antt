use Rattle.raw_functions.proofs.Meaning.{others_more}
use Rattle.raw_functions.proofs.locals.others_of.Goals as goal

pub loop-declared-preserved : goal.loop-declared-preserved
loop-declared-preserved c = others_more c.loop-declared.yielded c.in-Some.declared c.loop-declared.locals.items c.push_other.new.locals.items c.local_of.result c.loop-declared.invariant c.local_of.ensures c.in_ok-push_other.ensures

use Rattle.raw_functions.proofs.Meaning.{kept_more}
use Rattle.raw_functions.proofs.blocks.kept_of.Goals as goal

pub loop-statement-preserved : goal.loop-statement-preserved
loop-statement-preserved c = kept_more c.loop-statement.yielded c.in-Some.statement c.loop-statement.kept.items c.push_kept.new.kept.items c.loop-statement.invariant c.in_ok-push_kept.ensures

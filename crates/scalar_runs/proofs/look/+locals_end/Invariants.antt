use Rattle.std.proofs.Common.{length}
use Rattle.scalar_runs.proofs.look.+locals_end.Given as goal

abbrev pub decreases-locals_end : goal.decreases-locals_end
decreases-locals_end l = length l.locals.now

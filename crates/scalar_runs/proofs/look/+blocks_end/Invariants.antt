use Rattle.std.proofs.Common.{length}
use Rattle.scalar_runs.proofs.look.+blocks_end.Given as goal

abbrev pub decreases-blocks_end : goal.decreases-blocks_end
decreases-blocks_end l = length l.blocks.now

use Rattle.std.proofs.Common.{length}
use Rattle.sym_terms.proofs.sums.+is_nothing.Given as goal

abbrev pub decreases-is_nothing : goal.decreases-is_nothing
decreases-is_nothing l = length l.summands.now

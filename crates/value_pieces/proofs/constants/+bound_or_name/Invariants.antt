use Rattle.std.proofs.Common.{length}
use Rattle.value_pieces.proofs.constants.+bound_or_name.Given as goal

abbrev pub decreases-bound_or_name : goal.decreases-bound_or_name
decreases-bound_or_name l = length l.ints.now

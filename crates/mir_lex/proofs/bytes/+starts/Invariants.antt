use Rattle.std.proofs.Common.{length}
use Rattle.mir_lex.proofs.bytes.+starts.Given as goal

abbrev pub decreases-starts : goal.decreases-starts
decreases-starts l = length l.needle.now

use Rattle.std.proofs.Common.{length}
use Rattle.bit_gates.proofs.products.+multiply.Given as goal

abbrev pub decreases-multiply : goal.decreases-multiply
decreases-multiply l = length l.ys.now

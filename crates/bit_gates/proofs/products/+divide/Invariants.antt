use Rattle.std.proofs.Common.{length}
use Rattle.bit_gates.proofs.products.+divide.Given as goal

abbrev pub decreases-divide : goal.decreases-divide
decreases-divide l = length l.xs.now

use Rattle.std.proofs.Common.{length}
use Rattle.sat_core.proofs.order.Order.suggest.Given as goal

abbrev pub decreases-loop-variable : goal.decreases-loop-variable
decreases-loop-variable l = length l.self.heap.items

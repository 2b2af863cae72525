use Rattle.std.proofs.Common.{◌≡◌, length}
use Rattle.sat_core.proofs.order.Order.shrink.Given as goal

abbrev pub invariant-loop-variable : goal.invariant-loop-variable
invariant-loop-variable l = record {
  heap : length l.self.heap.items ≡ length l.fn.self.heap.items;
  variables : length l.self.activities.items ≡ length l.fn.self.activities.items;
}

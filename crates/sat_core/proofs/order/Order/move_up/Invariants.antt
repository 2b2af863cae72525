use Rattle.std.proofs.Common.{◌≡◌, ◌<◌, length}
use Rattle.sat_core.proofs.order.Order.move_up.Given as goal

abbrev pub invariant-loop-at : goal.invariant-loop-at
invariant-loop-at l = record {
  within : l.at < length l.self.heap.items;
  heap : length l.self.heap.items ≡ length l.fn.self.heap.items;
  variables : length l.self.activities.items ≡ length l.fn.self.activities.items;
}

abbrev pub decreases-loop-at : goal.decreases-loop-at
decreases-loop-at l = l.at

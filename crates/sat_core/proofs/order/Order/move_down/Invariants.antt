use Rattle.std.proofs.Common.{◌≡◌, ◌<◌, ◌-◌, length}
use Rattle.sat_core.proofs.order.Order.move_down.Given as goal

abbrev pub invariant-loop-below : goal.invariant-loop-below
invariant-loop-below l = record {
  within : l.at < length l.self.heap.items;
  heap : length l.self.heap.items ≡ length l.fn.self.heap.items;
  variables : length l.self.activities.items ≡ length l.fn.self.activities.items;
}

abbrev pub decreases-loop-below : goal.decreases-loop-below
decreases-loop-below l = length l.self.heap.items - l.at

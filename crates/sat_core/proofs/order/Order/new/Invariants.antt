use Rattle.std.proofs.Common.{◌≡◌, ◌<◌, length, All}
use Rattle.sat_core.proofs.order.Order.new.Given as goal

abbrev pub invariant-loop-variable : goal.invariant-loop-variable
invariant-loop-variable l = record {
  active : length l.activities.items ≡ l.variable;
  phased : length l.phases.items ≡ l.variable;
  placed : length l.places.items ≡ l.variable;
  known : All (λ variable. variable < length l.activities.items) l.heap.items;
}

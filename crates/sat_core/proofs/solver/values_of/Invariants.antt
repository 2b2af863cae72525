use Rattle.std.proofs.Common.{◌≡◌, length}
use Rattle.sat_core.specs.Values.{IsValued}
use Rattle.sat_core.proofs.solver.values_of.Given as goal

abbrev pub invariant-loop-variable : goal.invariant-loop-variable
invariant-loop-variable l = record {
  long : length l.values.items ≡ l.variable;
  said : IsValued l.trail l.values.items l.variable;
}

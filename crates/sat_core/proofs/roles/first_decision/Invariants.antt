use Rattle.std.proofs.Common.{◌≤◌, ◌-◌}
use Rattle.sat_core.specs.Roles.{NoneDecided}
use Rattle.sat_core.proofs.roles.first_decision.Given as goal

abbrev pub invariant-loop-at : goal.invariant-loop-at
invariant-loop-at l = record {
  above : l.low ≤ l.at;
  below : l.at ≤ l.last;
  none : NoneDecided l.trail.steps l.low l.at;
}

abbrev pub decreases-loop-at : goal.decreases-loop-at
decreases-loop-at l = l.last - l.at

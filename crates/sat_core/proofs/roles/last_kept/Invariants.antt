use Rattle.std.proofs.Common.{◌≤◌}
use Rattle.sat_core.specs.Roles.{NoneKept}
use Rattle.sat_core.proofs.roles.last_kept.Given as goal

abbrev pub invariant-loop-at : goal.invariant-loop-at
invariant-loop-at l = record {
  within : l.at ≤ l.high;
  none : NoneKept l.roles l.at l.high;
}

abbrev pub decreases-loop-at : goal.decreases-loop-at
decreases-loop-at l = l.at

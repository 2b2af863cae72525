use Rattle.std.proofs.Common.{◌≤◌, length}
use Rattle.sat_core.specs.Roles.{NoneDecided}
use Rattle.sat_core.proofs.roles.last_decision.Given as goal

abbrev pub invariant-loop-at : goal.invariant-loop-at
invariant-loop-at l = record {
  within : l.at ≤ length l.trail.steps;
  none : NoneDecided l.trail.steps l.at (length l.trail.steps);
}

abbrev pub decreases-loop-at : goal.decreases-loop-at
decreases-loop-at l = l.at

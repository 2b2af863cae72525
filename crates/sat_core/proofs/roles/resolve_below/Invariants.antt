use Rattle.std.proofs.Common.{◌≤◌}
use Rattle.sat_core.specs.Known.{known_clauses}
use Rattle.sat_core.specs.Roles.{Keeps, NoneKept, SameFrom}
use Rattle.sat_core.proofs.roles.resolve_below.Given as goal

abbrev pub invariant-loop-at : goal.invariant-loop-at
invariant-loop-at l = record {
  within : l.at ≤ l.high;
  keeps : Keeps (known_clauses l.clauses l.log) l.trail.steps l.initial.roles l.roles;
  none : NoneKept l.roles l.at l.high;
  later : SameFrom l.high l.initial.roles l.roles;
}

abbrev pub decreases-loop-at : goal.decreases-loop-at
decreases-loop-at l = l.at

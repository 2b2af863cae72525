use Rattle.std.proofs.Common.{◌≤◌}
use Rattle.sat_core.specs.Known.{known_clauses}
use Rattle.sat_core.specs.Roles.{Keeps, SameFrom}
use Rattle.sat_core.proofs.shorten.shorten.Given as goal

abbrev pub invariant-loop-at : goal.invariant-loop-at
invariant-loop-at l = record {
  within : l.at ≤ l.decision;
  keeps : Keeps (known_clauses l.clauses l.log) l.trail.steps l.initial.roles l.roles;
  later : SameFrom l.decision l.initial.roles l.roles;
}

abbrev pub decreases-loop-at : goal.decreases-loop-at
decreases-loop-at l = l.at

use Rattle.std.proofs.Common.{length}
use Rattle.sat_core.specs.Known.{known_clauses}
use Rattle.sat_core.specs.Roles.{Keeps, IsLastKept}
use Rattle.sat_core.proofs.roles.resolve_to_one.Given as goal

abbrev pub invariant-loop-roles : goal.invariant-loop-roles
invariant-loop-roles l = record {
  keeps : Keeps (known_clauses l.clauses l.log) l.trail.steps l.fn.roles l.roles;
  last : IsLastKept l.roles l.decision (length l.trail.steps) l.at;
}

abbrev pub decreases-loop-roles : goal.decreases-loop-roles
decreases-loop-roles l = l.at

use Rattle.std.proofs.Common.{◌-◌, ◌≤◌}
use Rattle.sat_core.specs.Passing.{IsWatching}
use Rattle.sat_core.specs.Progress.{progress}
use Rattle.sat_core.proofs.propagate.propagate.Given as goal

abbrev pub invariant-loop-front : goal.invariant-loop-front
invariant-loop-front l = record {
  watching : IsWatching l.clauses l.log l.trail l.watching.pairs.items l.watching.lists l.front;
  further : progress l.clauses.variables l.fn.trail.steps ≤ progress l.clauses.variables l.trail.steps;
}

abbrev pub decreases-loop-front : goal.decreases-loop-front
decreases-loop-front l = l.clauses.variables - l.front

use Rattle.std.proofs.Common.{◌≡◌, ◌-◌, ◌^◌}
use Rattle.sat_core.specs.Progress.{progress}
use Rattle.sat_core.specs.Turn.{IsWatchingAll}
use Rattle.sat_core.proofs.solver.solve.Given as goal

abbrev pub invariant-loop-search : goal.invariant-loop-search
invariant-loop-search l = record {
  search : IsWatchingAll l.clauses l.search;
  effort : l.effort ≡ l.fn.effort;
}

abbrev pub decreases-loop-search : goal.decreases-loop-search
decreases-loop-search l = 3 ^ l.clauses.variables - progress l.clauses.variables l.search.trail.steps

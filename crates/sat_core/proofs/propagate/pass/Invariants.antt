use Rattle.std.proofs.Common.{◌-◌, length}
use Rattle.watch_lists.specs.Lists.{list_at}
use Rattle.sat_core.specs.Passing.{RunsOn}
use Rattle.sat_core.specs.Progress.{progress}
use Rattle.sat_core.proofs.propagate.pass.Given as goal

abbrev pub invariant-loop-at : goal.invariant-loop-at
invariant-loop-at l = RunsOn l.clauses l.log (progress l.clauses.variables l.fn.trail.steps) l.trail l.watching.pairs.items l.watching.lists (record { front = l.front; literal = l.literal; at = l.at })

abbrev pub decreases-loop-at : goal.decreases-loop-at
decreases-loop-at l = length (list_at l.watching.lists l.literal) - l.at

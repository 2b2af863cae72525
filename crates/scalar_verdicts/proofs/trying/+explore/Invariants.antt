use Rattle.std.proofs.Common.{◌+◌, ◌-◌, ◌*◌}
use Rattle.scalar_runs.specs.Engine.{configuration}
use Rattle.scalar_verdicts.specs.Walks.{Tried}
use Rattle.scalar_verdicts.proofs.trying.+explore.Given as goal

abbrev pub decreases-explore : goal.decreases-explore
decreases-explore l = 3 * (50000 - l.walk.steps) + 2

abbrev pub decreases-try_values : goal.decreases-try_values
decreases-try_values l = 3 * (50000 - l.walk.now.steps) + 1

abbrev pub decreases-try_value : goal.decreases-try_value
decreases-try_value l = 3 * (50000 - l.walk.now.steps)

abbrev pub invariant-try_values-loop-number : goal.invariant-try_values-loop-number
invariant-try_values-loop-number l = Tried l.function (configuration l.walk.state) l.kind l.destination.0 l.next.0 l.number l.initial.runs.items l.runs.items

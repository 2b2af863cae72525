use Rattle.std.proofs.Common.{◌+◌, ◌≤◌}
use Rattle.scalar_verdicts.specs.Walks.{HasGone}
use Rattle.scalar_verdicts.proofs.walks.go_on.Given as goal

abbrev pub invariant-loop : goal.invariant-loop
invariant-loop l = record {
  gone : HasGone l.function l.initial.walk l.walk;
  steps : l.initial.walk.steps + l.counter ≤ l.walk.steps;
}

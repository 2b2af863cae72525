use Rattle.std.proofs.Common.{◌≤◌}
use Rattle.scalar_verdicts.specs.Rounds.{AreLeft}
use Rattle.scalar_verdicts.specs.Runs.{EachReached}
use Rattle.scalar_verdicts.proofs.rounds.find_runs.Given as goal

abbrev pub invariant-loop : goal.invariant-loop
invariant-loop l = record {
  reached : EachReached l.function l.runs.items;
  left : AreLeft l.function l.terms l.left.items l.runs.items;
  rises : l.initial.effort ≤ l.effort;
}

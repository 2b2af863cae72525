use Rattle.std.proofs.Common.{◌≤◌}
use Rattle.scalar_verdicts.specs.Rounds.{AreAsked, AreLeft}
use Rattle.scalar_verdicts.proofs.alone.asked_statuses.Given as goal

abbrev pub invariant-loop-check : goal.invariant-loop-check
invariant-loop-check l = record {
  left : AreLeft l.function l.terms l.left l.runs;
  asked : AreAsked l.function l.budget l.initial.effort l.effort l.yielded l.statuses.items;
  rises : l.initial.effort ≤ l.effort;
}

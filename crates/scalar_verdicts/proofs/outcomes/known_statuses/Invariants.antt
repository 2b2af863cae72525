use Rattle.scalar_verdicts.specs.Rounds.{AreKnown}
use Rattle.scalar_verdicts.proofs.outcomes.known_statuses.Given as goal

abbrev pub invariant-loop-check : goal.invariant-loop-check
invariant-loop-check l = AreKnown l.runs l.yielded l.statuses.items

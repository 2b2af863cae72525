use Rattle.std.proofs.Common.{drop}
use Rattle.scalar_verdicts.specs.Failures.{IsPicked}
use Rattle.scalar_verdicts.proofs.failures.own_of.Given as goal

abbrev pub invariant-loop-failure : goal.invariant-loop-failure
invariant-loop-failure l = IsPicked l.breach l.failures l.kept.items (drop l.failure-index l.failures)

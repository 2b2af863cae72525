use Rattle.std.proofs.Common.{drop}
use Rattle.scalar_verdicts.specs.Failures.{IsSifted}
use Rattle.scalar_verdicts.proofs.failures.others_of.Given as goal

abbrev pub invariant-loop-failure : goal.invariant-loop-failure
invariant-loop-failure l = IsSifted l.breach l.failures l.kept.items (drop l.failure-index l.failures)

use Rattle.std.proofs.Common.{drop}
use Rattle.scalar_verdicts.specs.Failures.{IsSum}
use Rattle.scalar_verdicts.proofs.failures.any_of.Given as goal

abbrev pub invariant-loop-failure : goal.invariant-loop-failure
invariant-loop-failure l = IsSum l.fn.terms l.terms l.root.0 l.failures (drop l.failure-index l.failures)

use Rattle.std.proofs.Common.{length}
use Rattle.scalar_terms.proofs.ListLaws.{IsUnderway}
use Rattle.scalar_terms.proofs.steps.run_statements.Given as goal

abbrev pub invariant-loop-left : goal.invariant-loop-left
invariant-loop-left l = IsUnderway l.function l.fn.terms l.fn.way l.fn.failures.items l.block.0 l.statements l.terms l.way l.failures.items l.index l.left

abbrev pub decreases-loop-left : goal.decreases-loop-left
decreases-loop-left l = length l.left

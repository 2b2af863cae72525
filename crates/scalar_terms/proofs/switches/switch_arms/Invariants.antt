use Rattle.std.proofs.Common.{length}
use Rattle.scalar_terms.proofs.SwitchLaws.{IsSwitching}
use Rattle.scalar_terms.proofs.switches.switch_arms.Given as goal

abbrev pub invariant-loop-ahead : goal.invariant-loop-ahead
invariant-loop-ahead l = IsSwitching l.function l.fn.terms l.fn.ways l.word.0 l.fn.left.0 l.width l.slots l.arms l.otherwise l.terms l.ways l.unmatched.0 l.ahead

abbrev pub decreases-loop-ahead : goal.decreases-loop-ahead
decreases-loop-ahead l = length l.ahead

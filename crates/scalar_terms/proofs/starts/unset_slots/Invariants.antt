use Rattle.scalar_terms.specs.Starts.{AreUnset}
use Rattle.scalar_terms.proofs.starts.unset_slots.Given as goal

abbrev pub invariant-loop-number : goal.invariant-loop-number
invariant-loop-number l = AreUnset l.function l.fn.terms l.terms l.slots.items l.number

use Rattle.bit_gates.proofs.LiteralLaws.{negation_inside}
use Rattle.bit_gates.proofs.TestLaws.{equal_gates}
use Rattle.bit_gates.proofs.words.equal_bit.Goals as goal

pub and-requires-clause-b_inside : goal.and-requires-clause-b_inside
and-requires-clause-b_inside c = rw c.negation.ensures (negation_inside _ _ c.in_ok-differ.ensures.inside)

pub returns : goal.returns
returns c = equal_gates _ _ _ _ _ _ _ _ _ c.requires.below_inside c.negation.ensures c.in_ok-differ.ensures c.in_ok-and.ensures

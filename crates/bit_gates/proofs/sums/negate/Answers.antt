use Rattle.std.proofs.Common.{◌∙◌, refl}
use Rattle.bit_gates.proofs.NumberLaws.{in_negations, in_same}
use Rattle.bit_gates.proofs.SumLaws.{negation_made}
use Rattle.bit_gates.proofs.sums.negate.Goals as goal

pub add-requires-clause-xs_inside : goal.add-requires-clause-xs_inside
add-requires-clause-xs_inside c = in_same _ _ _ (c.as_slice.ensures.value ∙ c.in_ok-others.ensures) (in_negations _ _ c.requires.xs_inside)

pub returns : goal.returns
returns c = negation_made _ _ _ _ _ _ _ _ _ _ refl (c.as_slice.ensures.value ∙ c.in_ok-others.ensures) (c.as_slice-2.ensures.value ∙ c.in_ok-zeros.ensures) c.constant-falsity.ensures c.truth-truth.ensures c.in_ok-sum.ensures

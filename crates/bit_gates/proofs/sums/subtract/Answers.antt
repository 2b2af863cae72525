use Rattle.std.proofs.Common.{◌∙◌}
use Rattle.bit_gates.proofs.NumberLaws.{in_negations, in_same}
use Rattle.bit_gates.proofs.SumLaws.{difference_made}
use Rattle.bit_gates.proofs.sums.subtract.Goals as goal

pub add-requires-clause-ys_inside : goal.add-requires-clause-ys_inside
add-requires-clause-ys_inside c = in_same _ _ _ (c.as_slice.ensures.value ∙ c.in_ok-others.ensures) (in_negations _ _ c.requires.ys_inside)

pub returns : goal.returns
returns c = difference_made _ _ _ _ _ _ _ _ c.requires.one_width (c.as_slice.ensures.value ∙ c.in_ok-others.ensures) c.truth-truth.ensures c.in_ok-add.ensures

use Rattle.std.proofs.Common.{arith}
use Rattle.bit_gates.proofs.LiteralLaws.{negation_inside}
use Rattle.bit_blast.proofs.Exceeded.{product_signed_made}
use Rattle.bit_blast.proofs.overflow.product_over_signed.Goals as goal

pub choose-requires-clause-b_inside : goal.choose-requires-clause-b_inside
choose-requires-clause-b_inside c = rw c.negation.ensures (negation_inside _ _ (omega (arith, c.in_ok-below.ensures.inside, c.in_ok-negative.ensures.extends.grown)))

pub returns : goal.returns
returns c =
    product_signed_made _ _ _ _ _ _ _ _ c.args.xs.now c.args.ys.now _ _ _ _ _ _ _ _ _ _ _ _ _ _ c.requires.some_bits c.requires.one_width c.requires.xs_inside c.requires.ys_inside
    c.as_slice.ensures.value c.as_slice-2.ensures.value c.as_slice-whole.ensures.value c.as_slice-limit.ensures.value c.in_ok-truth_word.ensures c.negation.ensures
    c.in_ok-left.ensures c.in_ok-right.ensures c.in_ok-product.ensures c.in_ok-half.ensures c.in_ok-above.ensures c.in_ok-below.ensures c.in_ok-negative.ensures c.in_ok-literal.ensures

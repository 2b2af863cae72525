use Rattle.std.proofs.Common.{◌∙◌, refl}
use Rattle.bit_gates.proofs.LiteralLaws.{negation_inside}
use Rattle.bit_blast.proofs.Magnitudes.{lawful_signed_made}
use Rattle.bit_blast.proofs.signs.lawful_signed.Goals as goal

pub and-requires-2-clause-b_inside : goal.and-requires-2-clause-b_inside
and-requires-2-clause-b_inside c = rw c.negation.ensures (negation_inside _ _ c.in_ok-both.ensures.inside)

pub returns : goal.returns
returns c =
    lawful_signed_made _ _ _ _ _ _ c.args.xs.now c.args.ys.now _ _ _ _ _ _ _ _ _ _ c.requires.one_width c.requires.xs_inside c.requires.ys_inside c.truth-truth.ensures c.constant-falsity.ensures
    (c.as_slice.ensures.value ∙ c.in_ok-push.ensures.items ∙ (rw c.in_ok-least.ensures refl)) (c.as_slice-2.ensures.value ∙ c.in_ok-ones.ensures)
    c.in_ok-nonzero.ensures c.in_ok-is_least.ensures c.in_ok-is_ones.ensures c.in_ok-both.ensures c.negation.ensures c.in_ok-and.ensures

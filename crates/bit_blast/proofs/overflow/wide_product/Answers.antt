use Rattle.std.proofs.Common.{◌∙◌, refl}
use Rattle.bit_blast.proofs.Exceeded.{wide_made}
use Rattle.bit_blast.proofs.overflow.wide_product.Goals as goal

pub returns : goal.returns
returns c =
    wide_made _ _ c.args.xs.now c.args.ys.now _ _ _ c.requires.one_width c.constant-falsity.ensures
    (c.as_slice-2.ensures.value ∙ c.in_ok-extend_from_slice.ensures.items ∙ (rw (c.in_ok-wide.ensures.items, c.as_slice.ensures.value, c.in_ok-zeros.ensures) refl)) c.in_ok-multiply.ensures

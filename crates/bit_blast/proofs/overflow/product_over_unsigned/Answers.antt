use Rattle.std.proofs.Common.{◌∙◌, length, ap, drop}
use Rattle.std.proofs.lemmas.List.{take_rest}
use Rattle.bit_blast.proofs.Exceeded.{product_unsigned_made}
use Rattle.bit_blast.proofs.overflow.product_over_unsigned.Goals as goal

pub returns : goal.returns
returns c =
    product_unsigned_made _ _ _ c.args.xs.now c.args.ys.now c.in_ok-product.product.items _ _ _ _ _ _ c.in_ok-truth_word.ensures c.negation.ensures
    (take_rest c.deref.result.now (length c.args.xs.now) ∙ ap (drop (length c.args.xs.now)) c.deref.ensures.value) c.constant-falsity.ensures (c.as_slice.ensures.value ∙ c.in_ok-zeros.ensures)
    c.in_ok-product.ensures c.in_ok-fits.ensures

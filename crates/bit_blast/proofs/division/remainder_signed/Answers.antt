use Rattle.bit_blast.proofs.Divided.{magnitudes_divided, remainder_signed_made}
use Rattle.bit_blast.proofs.division.remainder_signed.Goals as goal

pub returns : goal.returns
returns c = remainder_signed_made _ _ _ _ _ c.args.xs.now c.args.ys.now _ _ _ _ _ _ _ c.requires.some_bits c.requires.one_width c.requires.xs_inside c.requires.ys_inside c.as_slice-3.ensures.value c.as_slice-4.ensures.value (magnitudes_divided _ _ _ _ c.args.xs.now c.args.ys.now _ _ _ _ _ _ c.requires.one_width c.requires.xs_inside c.requires.ys_inside c.as_slice.ensures.value c.as_slice-2.ensures.value c.in_ok-left.ensures c.in_ok-right.ensures c.in_ok-division.ensures) c.in_ok-remainder.ensures c.in_ok-lawful.ensures c.in_ok-mask.ensures

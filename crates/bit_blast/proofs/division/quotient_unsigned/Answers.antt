use Rattle.bit_blast.proofs.Divided.{quotient_unsigned_made}
use Rattle.bit_blast.proofs.division.quotient_unsigned.Goals as goal

pub returns : goal.returns
returns c = quotient_unsigned_made _ _ _ _ c.args.xs.now c.args.ys.now _ _ _ _ _ c.requires.xs_inside c.requires.ys_inside c.as_slice.ensures.value c.in_ok-division.ensures c.in_ok-lawful.ensures c.in_ok-mask.ensures

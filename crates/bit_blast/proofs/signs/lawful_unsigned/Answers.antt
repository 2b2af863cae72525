use Rattle.std.proofs.Common.{◌∙◌}
use Rattle.bit_blast.proofs.Magnitudes.{lawful_unsigned_made}
use Rattle.bit_blast.proofs.signs.lawful_unsigned.Goals as goal

pub returns : goal.returns
returns c = lawful_unsigned_made _ _ c.args.xs.now c.args.ys.now _ _ _ _ c.constant-falsity.ensures (c.as_slice.ensures.value ∙ c.in_ok-zeros.ensures) c.in_ok-none.ensures c.negation.ensures

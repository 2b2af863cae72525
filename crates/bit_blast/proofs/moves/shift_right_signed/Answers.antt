use Rattle.bit_blast.proofs.Moved.{shifted_signed_made}
use Rattle.bit_blast.proofs.moves.shift_right_signed.Goals as goal

pub returns : goal.returns
returns c = shifted_signed_made _ _ _ _ _ c.requires.some_bits c.requires.few_bits c.in_ok-shift_down.ensures

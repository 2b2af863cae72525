use Rattle.bit_blast.proofs.Moved.{shifted_unsigned_made}
use Rattle.bit_blast.proofs.moves.shift_right_unsigned.Goals as goal

pub returns : goal.returns
returns c = shifted_unsigned_made _ _ _ _ _ _ c.constant-falsity.ensures c.in_ok-shift_down.ensures

use Rattle.bit_blast.proofs.Moved.{shifted_left_made}
use Rattle.bit_blast.proofs.moves.shift_left.Goals as goal

pub returns : goal.returns
returns c = shifted_left_made _ _ _ _ _ c.in_ok-shift_up.ensures

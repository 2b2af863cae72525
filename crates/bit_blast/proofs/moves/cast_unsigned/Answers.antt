use Rattle.bit_blast.proofs.Moved.{cast_unsigned_made}
use Rattle.bit_blast.proofs.moves.cast_unsigned.Goals as goal

pub returns : goal.returns
returns c = cast_unsigned_made _ _ _ _ _ c.requires c.constant-falsity.ensures c.in_ok-resized.ensures

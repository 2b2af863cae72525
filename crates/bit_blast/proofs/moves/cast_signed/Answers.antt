use Rattle.bit_blast.proofs.Moved.{cast_signed_made}
use Rattle.bit_blast.proofs.moves.cast_signed.Goals as goal

pub returns : goal.returns
returns c = cast_signed_made _ _ _ _ c.requires.some_bits c.requires.xs_inside c.in_ok-resized.ensures

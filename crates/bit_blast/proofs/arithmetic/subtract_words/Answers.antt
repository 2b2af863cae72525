use Rattle.bit_blast.proofs.Arithmetical.{subtracted_made}
use Rattle.bit_blast.proofs.arithmetic.subtract_words.Goals as goal

pub returns : goal.returns
returns c = subtracted_made _ _ _ _ _ _ c.requires.one_width c.in_ok-difference.ensures

use Rattle.bit_blast.proofs.Arithmetical.{complement_made}
use Rattle.bit_blast.proofs.arithmetic.complement_word.Goals as goal

pub returns : goal.returns
returns c = complement_made _ _ _ c.requires c.in_ok-complement.ensures

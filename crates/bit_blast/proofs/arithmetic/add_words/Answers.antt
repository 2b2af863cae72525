use Rattle.bit_blast.proofs.Arithmetical.{added_made}
use Rattle.bit_blast.proofs.arithmetic.add_words.Goals as goal

pub returns : goal.returns
returns c = added_made _ _ _ _ _ _ _ c.constant-falsity.ensures c.in_ok-sum.ensures

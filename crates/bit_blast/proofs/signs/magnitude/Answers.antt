use Rattle.bit_blast.proofs.Magnitudes.{magnitude_made}
use Rattle.bit_blast.proofs.signs.magnitude.Goals as goal

pub returns : goal.returns
returns c = magnitude_made _ _ _ c.args.xs.now _ _ _ c.requires.some_bits c.requires.xs_inside c.as_slice.ensures.value c.in_ok-negated.ensures c.in_ok-choose_words.ensures

use Rattle.bit_blast.proofs.Magnitudes.{signed_word_made}
use Rattle.bit_blast.proofs.signs.signed_word.Goals as goal

pub returns : goal.returns
returns c = signed_word_made _ _ _ c.args.xs.now _ _ _ _ c.requires.negative_inside c.requires.xs_inside c.as_slice.ensures.value c.in_ok-negated.ensures c.in_ok-choose_words.ensures

use Rattle.bit_blast.proofs.Moved.{choice_made}
use Rattle.bit_blast.proofs.moves.choose_word.Goals as goal

pub returns : goal.returns
returns c = choice_made _ _ c.args.test.now c.args.xs.now c.args.ys.now _ c.requires.one_bit c.requires.one_width c.in_ok-choose_words.ensures

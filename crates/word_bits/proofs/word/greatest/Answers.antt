use Rattle.word_bits.proofs.Cuts.{greatest_is}
use Rattle.word_bits.proofs.word.greatest.Goals as goal

pub returns : goal.returns
returns c = greatest_is c.args.width c.requires.few_bits

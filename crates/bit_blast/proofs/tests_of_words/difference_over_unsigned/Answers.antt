use Rattle.bit_blast.proofs.Tested.{difference_over_made}
use Rattle.bit_blast.proofs.tests_of_words.difference_over_unsigned.Goals as goal

pub returns : goal.returns
returns c = difference_over_made _ _ _ _ _ _ c.in_ok-truth_word.ensures c.in_ok-literal.ensures

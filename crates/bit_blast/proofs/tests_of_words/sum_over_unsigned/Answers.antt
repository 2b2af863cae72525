use Rattle.bit_blast.proofs.Tested.{sum_over_made}
use Rattle.bit_blast.proofs.tests_of_words.sum_over_unsigned.Goals as goal

pub returns : goal.returns
returns c = sum_over_made _ _ _ _ _ _ _ _ c.in_ok-truth_word.ensures c.constant-falsity.ensures c.in_ok-sum.ensures

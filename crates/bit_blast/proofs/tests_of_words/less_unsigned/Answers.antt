use Rattle.std.proofs.Common.{refl}
use Rattle.bit_blast.proofs.Tested.{truth_made}
use Rattle.bit_blast.proofs.tests_of_words.less_unsigned.Goals as goal

pub returns : goal.returns
returns c = truth_made _ _ _ _ _ _ c.in_ok-truth_word.ensures c.in_ok-literal.ensures (λ bits. refl)

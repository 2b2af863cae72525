use Rattle.value_terms.proofs.MadeLaws.{test_of, bit_of_truth}
use Rattle.value_terms.proofs.made.bit.Goals as goal

pub returns : goal.returns
returns c = test_of c.args.terms.now c.constant.new.terms _ _ _ (rw c.truth_word.ensures at c.in_ok-id.ensures) (λ inputs. bit_of_truth c.args.truth)

use Rattle.std.proofs.Common.{◌∙◌}
use Rattle.bit_blast.proofs.Tested.{less_signed_made}
use Rattle.bit_blast.proofs.tests_of_words.less_signed.Goals as goal

pub returns : goal.returns
returns c = less_signed_made _ _ c.args.xs.now c.args.ys.now _ _ _ _ c.requires.some_bits c.requires.one_width c.in_ok-truth_word.ensures (c.as_slice.ensures.value ∙ c.in_ok-left.ensures) (c.as_slice-2.ensures.value ∙ c.in_ok-right.ensures) c.in_ok-literal.ensures

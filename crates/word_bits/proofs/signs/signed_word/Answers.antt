use Rattle.std.proofs.Common.{ap}
use Rattle.std.proofs.lemmas.Nat.{and_mask}
use Rattle.word_bits.proofs.Cuts.{word_at, minus_masked}
use Rattle.word_bits.proofs.signs.signed_word.Goals as goal
use Rattle.word_bits.proofs.signs.signed_word.Goals.{then-negative, else-negative}

pub returns : goal.returns
returns c = rw c.greatest.ensures (elim c.if-negative.branch [
  | then-negative w ↦ rw (w.value-is, w.if-negative.true) (minus_masked c.args.width c.args.magnitude c.requires.few_bits c.ranges.magnitude.fits)
  | else-negative w ↦ rw (w.value-is, w.if-negative.false) (ap (word_at c.args.width) (and_mask c.args.magnitude c.args.width))
])

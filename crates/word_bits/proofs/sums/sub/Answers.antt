use Rattle.std.proofs.Common.{ap, sym, ◌∙◌, ◌≤◌, ◌^◌, arith}
use Rattle.word_bits.proofs.Cuts.{word_at, difference_masked, word_of-difference}
use Rattle.word_bits.proofs.sums.sub.Goals as goal

pub returns : goal.returns
returns c =
    let a = c.args.a in
    let below : c.args.b.value ≤ 2 ^ a.width = omega arith in
    rw c.greatest.ensures (ap (word_at a.width) (difference_masked a.value c.args.b.value a.width c.requires.few_bits below)
    ∙ sym (word_of-difference a.width a.value c.args.b.value below))

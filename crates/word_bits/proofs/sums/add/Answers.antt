use Rattle.std.proofs.Common.{◌+◌, ap}
use Rattle.word_bits.proofs.Cuts.{word_at, masked}
use Rattle.word_bits.proofs.sums.add.Goals as goal

pub returns : goal.returns
returns c = rw c.greatest.ensures (ap (word_at c.args.a.width) (masked (c.args.a.value + c.args.b.value) c.args.a.width c.requires.few_bits))

use Rattle.std.proofs.Common.{◌*◌, ◌%◌, ◌^◌, ap}
use Rattle.word_bits.proofs.Cuts.{word_at, masked}
use Rattle.word_bits.proofs.bits.shl.Goals as goal

pub returns : goal.returns
returns c =
    let a = c.args.a in
    rw (c.greatest.ensures, c.shift_amount-amount.ensures.amount)
    (ap (word_at a.width) (masked (a.value * 2 ^ (c.args.by.value % a.width)) a.width c.requires.shifted.few_bits))

use Rattle.std.proofs.Common.{◌%◌, sym, ◌∙◌}
use Rattle.word_bits.proofs.SignedValues.{halved-below, halved-above}
use Rattle.word_bits.proofs.bits.shr.Goals as goal

pub returns-then-is_negative : goal.returns-then-is_negative
returns-then-is_negative c =
    rw (c.not-then-is_negative.ensures, c.not.ensures, c.shift_amount-amount.ensures.amount)
    (halved-below c.args.signed c.args.a (c.args.by.value % c.args.a.width) c.requires.shifted (sym c.is_negative.ensures ∙ c.if-is_negative.true))

pub returns-else-is_negative : goal.returns-else-is_negative
returns-else-is_negative c =
    rw c.shift_amount-amount.ensures.amount
    (halved-above c.args.signed c.args.a (c.args.by.value % c.args.a.width) c.requires.shifted (sym c.is_negative.ensures ∙ c.if-is_negative.false))

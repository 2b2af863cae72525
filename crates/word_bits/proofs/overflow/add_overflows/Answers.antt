use Rattle.std.proofs.Common.{◌^◌}
use Rattle.word_bits.proofs.Overflows.{wrapped_sum, sum_over, same_from_beq}
use Rattle.word_bits.proofs.overflow.add_overflows.Goals as goal

pub returns-else-signed : goal.returns-else-signed
returns-else-signed c = rw (c.add-sum.ensures, c.if-signed.false) (wrapped_sum c.args.a.value c.args.b.value (2 ^ c.args.a.width) c.requires.first c.requires.second)

pub returns-then-negative-is_negative : goal.returns-then-negative-is_negative
returns-then-negative-is_negative c =
    rw (c.is_negative-then-negative-is_negative.ensures, c.add-sum.ensures, c.is_negative-negative.ensures, c.if-signed.true) (sum_over c.args.a c.args.b c.requires
    (same_from_beq _ _ (rw (c.is_negative-negative.ensures, c.is_negative.ensures) at c.if-negative-is_negative.true)))

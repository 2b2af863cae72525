use Rattle.word_bits.proofs.Overflows.{difference_over, other_from_beq}
use Rattle.word_bits.proofs.overflow.sub_overflows.Goals as goal

pub returns-then-negative-is_negative : goal.returns-then-negative-is_negative
returns-then-negative-is_negative c =
    rw (c.is_negative-then-negative-is_negative.ensures, c.sub.ensures, c.is_negative-negative.ensures, c.if-signed.true) (difference_over c.args.a c.args.b c.requires
    (other_from_beq _ _ (rw (c.is_negative-negative.ensures, c.is_negative.ensures) at c.if-negative-is_negative.true)))

use Rattle.std.proofs.Common.{◌∙◌, refl}
use Rattle.bit_blast.proofs.Exceeded.{power_made}
use Rattle.bit_blast.proofs.overflow.power_word.Goals as goal

pub returns : goal.returns
returns c =
    power_made _ _ _ _ _ _ c.requires c.truth.ensures c.constant-falsity.ensures
    (c.in_ok-extend_from_slice-2.ensures.items
    ∙ (rw (c.in_ok-extend_from_slice.ensures.items, c.in_ok-push.ensures.items, c.in_ok-word.ensures, c.as_slice.ensures.value, c.as_slice-2.ensures.value, c.in_ok-above.ensures, c.in_ok-upper.ensures) refl))

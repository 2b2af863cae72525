use Rattle.std.proofs.Common.{◌-◌, ◌^◌, ◌<◌, ◌∙◌, subst, ℕ, sym}
use Rattle.std.proofs.lemmas.Nat.{one_shl}
use Rattle.word_bits.proofs.Cuts.{greatest_is}
use Rattle.sym_terms.proofs.WordLaws.{word_is, below_width, sub_constant}
use Rattle.sym_terms.proofs.laws.law_of_constant.Goals as goal

pub law_of_ones-requires-clause-ones : goal.law_of_ones-requires-clause-ones
law_of_ones-requires-clause-ones c =
    word_is c.args.c c.args.width (2 ^ c.args.width - 1) (c.requires.one_width (sym c.if-is_shift.ensures)) (c.if-c-width.true ∙ greatest_is c.args.width c.requires.width_is.few_bits)

pub law_of_power-requires-clause-below : goal.law_of_power-requires-clause-below
law_of_power-requires-clause-below c =
    let below : c.args.c.value < 2 ^ c.args.width = subst (λ (k : ℕ). c.args.c.value < 2 ^ k) (c.requires.one_width (sym c.if-is_shift.ensures)) c.requires.constant.below in
    below_width c.ilog2-exponent.result c.args.width c.args.c.value c.ilog2-exponent.ensures.power_le below

pub law_of_power-requires-clause-power : goal.law_of_power-requires-clause-power
law_of_power-requires-clause-power c =
    word_is c.args.c c.args.width (2 ^ c.ilog2-exponent.result) (c.requires.one_width (sym c.if-is_shift.ensures)) (c.if-c-exponent.true ∙ one_shl c.ilog2-exponent.result 128 c.ilog2-exponent.ensures.bound)

pub returns-in-Sub : goal.returns-in-Sub
returns-in-Sub c = rw (c.in-Sub.is, c.neg.ensures) (sub_constant c.args.width c.requires.width_is c.args.c c.requires.constant (c.requires.one_width (sym c.if-is_shift.ensures)))

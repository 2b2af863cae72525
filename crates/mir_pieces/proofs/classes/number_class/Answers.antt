use Rattle.std.proofs.Common.{◌-◌, ◌^◌, sym, ◌∙◌, ap}
use Rattle.mir_lex.specs.Bytes.{number_within}
use Rattle.mir_ir.specs.Names.{int_of_name}
use Rattle.mir_pieces.proofs.Classing.{wide_class, value_class}
use Rattle.mir_pieces.proofs.classes.number_class.Goals as goal

pub returns-in-None-number_within : goal.returns-in-None-number_within
returns-in-None-number_within c = wide_class _ _ _ (ap int_of_name (sym c.suffix_of.ensures) ∙ sym c.from_name.ensures ∙ c.in-Some.is)
    (ap (number_within 10 (2 ^ 128 - 1)) (sym c.digits_of.ensures) ∙ sym c.number_within.ensures.value ∙ c.in-None-number_within.is)

pub returns-in-Some-number_within : goal.returns-in-Some-number_within
returns-in-Some-number_within c = value_class _ _ _ _ _ _ _ (ap int_of_name (sym c.suffix_of.ensures) ∙ sym c.from_name.ensures ∙ c.in-Some.is)
    (ap (number_within 10 (2 ^ 128 - 1)) (sym c.digits_of.ensures) ∙ sym c.number_within.ensures.value ∙ c.in-Some-number_within.is) c.fits_plus.ensures c.fits_minus.ensures c.typed_class.ensures

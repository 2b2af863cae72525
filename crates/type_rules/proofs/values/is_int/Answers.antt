use Rattle.std.proofs.Common.{◌∙◌, refl, sym}
use Rattle.mir_ir.specs.declared.types.Ty.TheVariants as form
use Rattle.type_rules.proofs.SameForms.{both_ints}
use Rattle.type_rules.proofs.values.is_int.Goals as goal

pub returns-in-Int : goal.returns-in-Int
returns-in-Int c = c.same_int.ensures ∙ sym (both_ints (form.Int c.args.int) c.args.ty.now c.args.int c.in-Int.other refl c.in-Int.is)

use Rattle.std.proofs.Common.{◌∙◌, ap, refl, sym}
use Rattle.mir_ir.specs.declared.types.Ty.TheVariants as form
use Rattle.type_rules.specs.Types.{same_type}
use Rattle.type_rules.proofs.SameForms.{both_boxes}
use Rattle.function_types.proofs.forms.is_box_of.Goals as goal

pub returns-in-BoxOf : goal.returns-in-BoxOf
returns-in-BoxOf c =
    c.same_type.ensures ∙ ap (same_type c.args.target.now) c.get.ensures
    ∙ sym (both_boxes (form.BoxOf c.args.target.now) c.args.ty.now c.args.target.now c.in-BoxOf.other refl c.in-BoxOf.is)

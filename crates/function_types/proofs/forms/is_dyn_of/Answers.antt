use Rattle.std.proofs.Common.{◌∙◌, ap, bytes_eq, refl, sym}
use Rattle.mir_ir.specs.declared.types.Ty.TheVariants as form
use Rattle.type_rules.proofs.SameForms.{both_dyns}
use Rattle.function_types.proofs.forms.is_dyn_of.Goals as goal

pub returns-in-Dyn : goal.returns-in-Dyn
returns-in-Dyn c =
    c.is_text.ensures ∙ ap (λ own. bytes_eq own c.args.trait_name.now) c.as_bytes.ensures
    ∙ sym (both_dyns c.args.ty.now (form.Dyn c.args.trait_name.now) c.in-Dyn.own c.args.trait_name.now c.in-Dyn.is refl)

use Rattle.std.proofs.Common.{◌∙◌, ap, sym}
use Rattle.mir_ir.specs.declared.types.Ty.TheVariants as form
use Rattle.type_rules.specs.Values.{type_of}
use Rattle.function_types.specs.Steps.{is_reference}
use Rattle.function_types.proofs.SameAs.{same_as_reference}
use Rattle.function_types.proofs.forms.is_receiver.Goals as goal

pub returns : goal.returns
returns c =
    c.is_reference.ensures ∙ ap (is_reference c.args.mutable (form.Dyn c.args.trait_name.now)) c.pointer.ensures
    ∙ sym (same_as_reference (type_of c.args.given) c.args.mutable (form.Dyn c.args.trait_name.now))

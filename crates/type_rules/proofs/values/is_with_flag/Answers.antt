use Rattle.std.proofs.Common.{[], ◌∷◌, ◌∙◌, ap, sym}
use Rattle.mir_ir.specs.declared.types.Ty.TheVariants as form
use Rattle.type_rules.specs.Types.{all_hold, same_type}
use Rattle.type_rules.proofs.SameForms.{tuple_holds}
use Rattle.type_rules.proofs.values.is_with_flag.Goals as goal

pub returns-in-Tuple : goal.returns-in-Tuple
returns-in-Tuple c = c.are_number_and_flag.ensures ∙ ap (all_hold (same_type (form.Int c.args.int) ∷ same_type form.Bool ∷ [])) c.as_slice.ensures ∙ sym (tuple_holds (form.Int c.args.int ∷ form.Bool ∷ []) c.args.ty.now c.in-Tuple.items c.in-Tuple.is)

use Rattle.std.proofs.Common.{[], ◌∙◌, ap, sym}
use Rattle.type_rules.specs.Types.{all_hold}
use Rattle.type_rules.proofs.SameForms.{tuple_holds}
use Rattle.type_rules.proofs.values.is_unit.Goals as goal

pub returns-in-Tuple : goal.returns-in-Tuple
returns-in-Tuple c = c.are_none.ensures ∙ ap (all_hold []) c.as_slice.ensures ∙ sym (tuple_holds [] c.args.ty.now c.in-Tuple.items c.in-Tuple.is)

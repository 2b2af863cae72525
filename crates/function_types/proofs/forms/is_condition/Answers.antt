use Rattle.std.proofs.Common.{◌∙◌, ap, sym}
use Rattle.type_rules.specs.Code.{is_bool}
use Rattle.type_rules.specs.Values.{type_of}
use Rattle.function_types.proofs.SameAs.{same_as_bool}
use Rattle.function_types.proofs.forms.is_condition.Goals as goal

pub returns : goal.returns
returns c = c.is_bool.ensures ∙ ap is_bool c.scalar.ensures ∙ sym (same_as_bool (type_of c.args.given))

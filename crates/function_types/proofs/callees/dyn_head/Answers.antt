use Rattle.std.proofs.Common.{◌∙◌, ap, sym}
use Rattle.std.specs.Prelude.{codes}
use Rattle.function_types.proofs.Fronts.{dyn_head_is, is_rest}
use Rattle.function_types.proofs.callees.dyn_head.Goals as goal

pub returns-in-None : goal.returns-in-None
returns-in-None c = ap (is_rest (codes ">")) c.in-None.ensures ∙ sym (dyn_head_is c.args.name.now c.args.head.now)

pub returns-in-Some : goal.returns-in-Some
returns-in-Some c = c.is_text.ensures ∙ ap (is_rest (codes ">")) c.in-Some.ensures ∙ sym (dyn_head_is c.args.name.now c.args.head.now)

use Rattle.std.proofs.Common.{◌∙◌, ap, sym}
use Rattle.std.specs.Prelude.{option_map}
use Rattle.type_rules.specs.Calls.{Typed}
use Rattle.function_types.proofs.SameAs.{type_at}
use Rattle.function_types.proofs.signatures.local_at.Goals as goal

pub returns-in-None : goal.returns-in-None
returns-in-None c = ap (option_map (λ l. Typed l.ty)) c.in-None.ensures ∙ sym (type_at c.args.locals.now c.args.place)

pub returns-in-Some : goal.returns-in-Some
returns-in-Some c = ap (option_map (λ l. Typed l.ty)) c.in-Some.ensures ∙ sym (type_at c.args.locals.now c.args.place)

use Rattle.std.proofs.Common.{List, map, ap, ◌∙◌}
use Rattle.mir_ir.specs.declared.types.Ty.{Ty}
use Rattle.type_rules.specs.Calls.{Signature, Typed, types_of}
use Rattle.function_types.proofs.SameAs.{types_taken}
use Rattle.function_types.proofs.signatures.function_signature.Goals as goal

pub returns : goal.returns
returns c =
    ap (λ (ts : List Ty). (let s : Signature = record { parameters = map (λ t. Typed t) ts; result = c.args.function.now.result } in s))
    (ap types_of c.parameters.ensures ∙ types_taken c.args.function.now.parameters c.args.function.now.locals)

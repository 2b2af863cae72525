use Rattle.std.proofs.Common.{ap, ◌∙◌}
use Rattle.type_rules.specs.Calls.{method_signature, types_of}
use Rattle.function_types.proofs.SameAs.{types_taken}
use Rattle.function_types.proofs.signatures.method_signature.Goals as goal

pub returns : goal.returns
returns c =
    c.method_of_locals.ensures
    ∙ ap (method_signature c.args.trait_name.now c.args.function.now.result)
    (ap types_of c.parameters.ensures ∙ types_taken c.args.function.now.parameters c.args.function.now.locals)

use Rattle.std.proofs.Common.{◌∙◌, sym}
use Rattle.function_types.specs.Steps.{in_two}
use Rattle.function_types.proofs.InTwo.{locals_in_two}
use Rattle.function_types.proofs.heads.locals_fit.Goals as goal

pub returns : goal.returns
returns c =
    c.in_two.ensures
    ∙ (λ i. in_two c.args.declared.now c.args.function.now.result (c.parameters.ensures i) (c.others.ensures i))
    ∙ sym (locals_in_two c.args.declared.now c.args.function.now.result c.args.function.now.parameters c.args.function.now.locals)

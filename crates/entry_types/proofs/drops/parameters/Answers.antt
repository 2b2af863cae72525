use Rattle.std.proofs.Common.{◌∙◌, ap}
use Rattle.type_rules.specs.Calls.{types_of}
use Rattle.entry_types.proofs.ParameterTypes.{types_of_first}
use Rattle.entry_types.proofs.drops.parameters.Goals as goal

pub returns : goal.returns
returns c = ap types_of c.first_locals.ensures ∙ types_of_first c.args.function.now.parameters c.args.function.now.locals

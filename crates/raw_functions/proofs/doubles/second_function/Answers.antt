use Rattle.raw_functions.proofs.Noting.{functions_found}
use Rattle.raw_functions.proofs.doubles.second_function.Goals as goal

pub returns : goal.returns
returns c = functions_found c.loop-left.names c.loop-left.left.now c.args.functions.now c.second.result c.loop-left.invariant c.in_default.len_below c.second.ensures

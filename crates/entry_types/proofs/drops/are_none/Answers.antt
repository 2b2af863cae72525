use Rattle.std.proofs.Common.{arith}
use Rattle.entry_types.proofs.ParameterTypes.{some_are_not_none}
use Rattle.entry_types.proofs.drops.are_none.Goals as goal

pub returns-in-len1-up : goal.returns-in-len1-up
returns-in-len1-up c = some_are_not_none c.args.types.now (omega arith)

use Rattle.std.proofs.Common.{arith}
use Rattle.code_types.proofs.FormLaws.{some_given}
use Rattle.code_types.proofs.rvalues.has_none.Goals as goal

pub returns-in_default : goal.returns-in_default
returns-in_default c = some_given c.args.fields.now (omega arith)

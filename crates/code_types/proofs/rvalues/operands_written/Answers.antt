use Rattle.type_rules.specs.Operands.{operand_type}
use Rattle.type_rules.specs.Refusals.{each}
use Rattle.code_types.proofs.FormLaws.{no_tuple_written, tuple_written}
use Rattle.code_types.proofs.rvalues.operands_written.Goals as goal

pub returns-in_ok-same-in-Some : goal.returns-in_ok-same-in-Some
returns-in_ok-same-in-Some c =
    tuple_written (each (operand_type c.args.declared.now c.args.body.now) c.args.operands.now) c.args.to.now c.in-Some.items.now c.in_ok-same-in-Some.same c.check.result
    c.in-Some.ensures c.in_ok-same-in-Some.ensures c.check.ensures

pub returns-in_ok-operands_typed-in-None : goal.returns-in_ok-operands_typed-in-None
returns-in_ok-operands_typed-in-None c =
    no_tuple_written (each (operand_type c.args.declared.now c.args.body.now) c.args.operands.now) c.args.to.now _ c.in-None.ensures c.in_ok-operands_typed-in-None.ensures

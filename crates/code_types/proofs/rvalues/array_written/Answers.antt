use Rattle.type_rules.specs.Operands.{operand_type}
use Rattle.code_types.specs.Views.{array_seen}
use Rattle.code_types.proofs.FormLaws.{array_written, no_array_written}
use Rattle.std.proofs.Common.{◌∙◌, ap}
use Rattle.type_rules.specs.declared.refusal.TypeKind.TheVariants as kind
use Rattle.type_rules.specs.Refusals.{check, each}
use Rattle.code_types.proofs.rvalues.array_written.Goals as goal

pub returns-in_ok-same-in-Some : goal.returns-in_ok-same-in-Some
returns-in_ok-same-in-Some c =
    array_written (operand_type c.args.declared.now c.args.body.now) c.args.operands.now c.args.to.now (array_seen c.in-Some.array) c.in_ok-same-in-Some.same c.check.result
    c.in-Some.ensures c.in_ok-same-in-Some.ensures (c.check.ensures ∙ ap (λ b. check b kind.Mismatch) c.both-all.ensures)

pub returns-in_ok-operands_typed-in-None : goal.returns-in_ok-operands_typed-in-None
returns-in_ok-operands_typed-in-None c =
    no_array_written (each (operand_type c.args.declared.now c.args.body.now) c.args.operands.now) c.args.to.now _ c.in-None.ensures c.in_ok-operands_typed-in-None.ensures

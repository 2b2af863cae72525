use Rattle.std.proofs.Common.{◌∙◌, ◌==◌, ◌&&◌, Some, None, ap, refl}
use Rattle.type_rules.specs.declared.refusal.TypeKind.TheVariants as kind
use Rattle.type_rules.specs.Operands.{operand_type}
use Rattle.type_rules.specs.Refusals.{check}
use Rattle.type_rules.specs.Values.{type_of}
use Rattle.code_types.specs.Views.{array_seen}
use Rattle.code_types.proofs.FormLaws.{repeat_written}
use Rattle.code_types.proofs.rvalues.repeat_written.Goals as goal

pub returns-in-Some : goal.returns-in-Some
returns-in-Some c =
    repeat_written (operand_type c.args.declared.now c.args.body.now c.args.operand.now) c.args.count c.args.to.now (type_of c.in_ok-given.given) (Some (array_seen c.in-Some.array)) c.check.result
    c.in-Some.ensures c.in_ok-given.ensures
    (c.check.ensures ∙ ap (λ b. check b kind.Mismatch) (c.both-all.ensures ∙ ap (λ b. c.args.count == c.in-Some.array.count && b) c.fits.ensures))

pub returns-in-None : goal.returns-in-None
returns-in-None c =
    repeat_written (operand_type c.args.declared.now c.args.body.now c.args.operand.now) c.args.count c.args.to.now (type_of c.in_ok-given.given) None _ c.in-None.ensures c.in_ok-given.ensures refl

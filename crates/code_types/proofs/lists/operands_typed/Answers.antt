use Rattle.std.proofs.Common.{refl, ◌∙◌, Err, ap}
use Rattle.std.proofs.lemmas.Result.{err_from_is_err_and}
use Rattle.type_rules.specs.Operands.{operand_type}
use Rattle.code_types.proofs.ListLaws.{refused_at, typed_at, typed_end}
use Rattle.code_types.proofs.lists.operands_typed.Goals as goal

pub returns-in_err-operand_type : goal.returns-in_err-operand_type
returns-in_err-operand_type c =
    let p = err_from_is_err_and c.from_residual.result c.from_residual.ensures.1 in
    p.1 ∙ ap (λ y. Err y) p.2 ∙ refused_at (operand_type c.args.declared.now c.args.body.now) (λ ts. tt) c.args.operands.now c.loop-place.place c.index-operands-place.result _ _
    c.loop-place-test.true c.index-operands-place.is c.in_err-operand_type.ensures c.loop-place.invariant

pub loop-place-preserved : goal.loop-place-preserved
loop-place-preserved c =
    typed_at (operand_type c.args.declared.now c.args.body.now) (λ ts. tt) (λ ts. tt) c.args.operands.now c.loop-place.place c.index-operands-place.result _ _
    c.loop-place-test.true c.index-operands-place.is c.in_ok-operand_type.ensures (λ ts. refl) c.loop-place.invariant

pub returns : goal.returns
returns c = typed_end (operand_type c.args.declared.now c.args.body.now) (λ ts. tt) c.args.operands.now c.loop-place.place _ c.loop-place-test.false c.loop-place.invariant

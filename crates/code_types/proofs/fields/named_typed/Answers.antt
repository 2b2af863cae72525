use Rattle.std.proofs.Common.{◌∙◌, Ok, refl, sym, Err, ap}
use Rattle.std.proofs.lemmas.Result.{err_from_is_err_and}
use Rattle.type_rules.specs.Operands.{operand_type}
use Rattle.type_rules.specs.Refusals.{◌>>=◌}
use Rattle.type_rules.specs.Rvalues.{given_type}
use Rattle.code_types.proofs.ListLaws.{refused_at, typed_at, typed_end}
use Rattle.code_types.proofs.fields.named_typed.Goals as goal

pub returns-in_err-operand_type : goal.returns-in_err-operand_type
returns-in_err-operand_type c =
    let o = c.index-given-place.result in
    let p = err_from_is_err_and c.from_residual.result c.from_residual.ensures.1 in
    p.1 ∙ ap (λ y. Err y) p.2 ∙ refused_at (given_type c.args.declared.now c.args.body.now) (λ gs. tt) c.args.given.now c.loop-place.place o _ _
    c.loop-place-test.true c.index-given-place.is
    (λ i. (c.in_err-operand_type.ensures ∙ (λ j. operand_type c.args.declared.now c.args.body.now (sym c.index-given-place.is j).operand)) i >>= λ t. Ok (record { name = o.name; ty = t })) c.loop-place.invariant

pub loop-place-preserved : goal.loop-place-preserved
loop-place-preserved c =
    let o = c.index-given-place.result in
    typed_at (given_type c.args.declared.now c.args.body.now) (λ gs. tt) (λ gs. tt) c.args.given.now c.loop-place.place o _ _
    c.loop-place-test.true c.index-given-place.is
    (λ i. (c.in_ok-operand_type.ensures ∙ (λ j. operand_type c.args.declared.now c.args.body.now (sym c.index-given-place.is j).operand)) i >>= λ t. Ok (record { name = o.name; ty = t })) (λ gs. refl) c.loop-place.invariant

pub returns : goal.returns
returns c = typed_end (given_type c.args.declared.now c.args.body.now) (λ gs. tt) c.args.given.now c.loop-place.place _ c.loop-place-test.false c.loop-place.invariant

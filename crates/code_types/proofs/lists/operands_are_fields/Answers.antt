use Rattle.std.proofs.Common.{◌&&◌, ◌+◌, ◌∙◌, Ok, ap, drop, leb, sym, Err}
use Rattle.std.proofs.lemmas.Result.{err_from_is_err_and}
use Rattle.type_rules.specs.Lookup.{field_types}
use Rattle.type_rules.specs.Operands.{operand_type}
use Rattle.type_rules.specs.Types.{same_types}
use Rattle.code_types.proofs.ListLaws.{as_many_types, refused_at, same_end, same_more, typed_at, typed_end}
use Rattle.code_types.proofs.lists.operands_are_fields.Goals as goal

pub returns-in_err-given : goal.returns-in_err-given
returns-in_err-given c =
    let p = err_from_is_err_and c.from_residual.result c.from_residual.ensures.1 in
    p.1 ∙ ap (λ y. Err y) p.2 ∙ refused_at (operand_type c.args.declared.now c.args.body.now) (λ ts. c.loop-place.same && same_types ts (drop c.loop-place.place (field_types c.args.fields.now))) c.args.operands.now c.loop-place.place
    c.index-operands-place.result _ _ c.loop-place-test.true c.index-operands-place.is c.in_err-given.ensures c.loop-place.invariant

pub loop-place-preserved : goal.loop-place-preserved
loop-place-preserved c =
    typed_at (operand_type c.args.declared.now c.args.body.now) (λ ts. c.loop-place.same && same_types ts (drop c.loop-place.place (field_types c.args.fields.now)))
    (λ ts. c.both-same.result && same_types ts (drop (c.loop-place.place + 1) (field_types c.args.fields.now))) c.args.operands.now c.loop-place.place
    c.index-operands-place.result _ _ c.loop-place-test.true c.index-operands-place.is c.in_ok-given.ensures
    (same_more (field_types c.args.fields.now) c.loop-place.place _ c.loop-place.same c.has_field_type.result c.both-same.result c.has_field_type.ensures c.both-same.ensures) c.loop-place.invariant

pub returns : goal.returns
returns c =
    ap (λ b. Ok b)
    (c.both-all.ensures ∙ ap (λ n. c.loop-place.same && leb n c.loop-place.place) (sym (as_many_types c.args.fields.now))
    ∙ ap (λ b. c.loop-place.same && b) (sym (same_end (field_types c.args.fields.now) c.loop-place.place)))
    ∙ typed_end (operand_type c.args.declared.now c.args.body.now) (λ ts. c.loop-place.same && same_types ts (drop c.loop-place.place (field_types c.args.fields.now))) c.args.operands.now c.loop-place.place _
    c.loop-place-test.false c.loop-place.invariant

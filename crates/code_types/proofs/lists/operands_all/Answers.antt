use Rattle.std.proofs.Common.{◌&&◌, ◌∙◌, refl, Err, ap}
use Rattle.std.proofs.lemmas.Result.{err_from_is_err_and}
use Rattle.type_rules.specs.Operands.{operand_type}
use Rattle.type_rules.specs.Rvalues.{all_of}
use Rattle.code_types.proofs.ListLaws.{all_more, refused_at, tested_true, typed_at}
use Rattle.code_types.proofs.lists.operands_all.Goals as goal

pub returns-in_err-given : goal.returns-in_err-given
returns-in_err-given c =
    let p = err_from_is_err_and c.from_residual.result c.from_residual.ensures.1 in
    p.1 ∙ ap (λ y. Err y) p.2 ∙ refused_at (operand_type c.args.declared.now c.args.body.now) (λ ts. c.loop-place.same && all_of c.args.item.now ts) c.args.operands.now c.loop-place.place
    c.index-operands-place.result _ _ c.loop-place-test.true c.index-operands-place.is c.in_err-given.ensures c.loop-place.invariant

pub loop-place-preserved : goal.loop-place-preserved
loop-place-preserved c =
    typed_at (operand_type c.args.declared.now c.args.body.now) (λ ts. c.loop-place.same && all_of c.args.item.now ts) (λ ts. c.both-same.result && all_of c.args.item.now ts) c.args.operands.now c.loop-place.place
    c.index-operands-place.result _ _ c.loop-place-test.true c.index-operands-place.is c.in_ok-given.ensures
    (all_more c.args.item.now _ c.loop-place.same c.fits.result c.both-same.result c.fits.ensures c.both-same.ensures) c.loop-place.invariant

pub returns : goal.returns
returns c = tested_true (operand_type c.args.declared.now c.args.body.now) (all_of c.args.item.now) c.loop-place.same c.args.operands.now c.loop-place.place _ refl c.loop-place-test.false c.loop-place.invariant

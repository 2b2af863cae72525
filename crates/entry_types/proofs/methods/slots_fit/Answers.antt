use Rattle.std.proofs.Common.{◌∙◌, Err, ap}
use Rattle.std.proofs.lemmas.Result.{err_from_is_err_and}
use Rattle.entry_types.specs.Paths.{list_path, told}
use Rattle.entry_types.proofs.Lists.{slots_walk}
use Rattle.entry_types.proofs.Walks.{walked_off, walked_on, walked_through}
use Rattle.entry_types.proofs.methods.slots_fit.Goals as goal

pub returns-in_err-method_in_slot : goal.returns-in_err-method_in_slot
returns-in_err-method_in_slot c =
    let p = err_from_is_err_and c.from_residual.result c.from_residual.ensures.1 in
    ap told (p.1 ∙ ap (λ y. Err y) p.2)
    ∙ walked_off (slots_walk c.args.functions.now c.args.ty.now c.args.models.now (list_path c.args.list)) c.args.methods.now c.loop-at.at c.index-methods-at.result _ _
    c.loop-at-test.true c.index-methods-at.is c.loop-at.invariant c.in_err-method_in_slot.ensures

pub loop-at-preserved : goal.loop-at-preserved
loop-at-preserved c =
    walked_on (slots_walk c.args.functions.now c.args.ty.now c.args.models.now (list_path c.args.list)) c.args.methods.now c.loop-at.at c.index-methods-at.result _
    c.loop-at-test.true c.index-methods-at.is c.loop-at.invariant c.in_ok-method_in_slot.ensures

pub returns : goal.returns
returns c = walked_through (slots_walk c.args.functions.now c.args.ty.now c.args.models.now (list_path c.args.list)) c.args.methods.now c.loop-at.at _ c.loop-at-test.false c.loop-at.invariant

use Rattle.std.proofs.Common.{◌∙◌, Err, ap}
use Rattle.std.proofs.lemmas.Result.{err_from_is_err_and}
use Rattle.entry_types.specs.Paths.{list_path, told}
use Rattle.entry_types.proofs.Lists.{items_walk}
use Rattle.entry_types.proofs.Walks.{walked_off, walked_on, walked_through}
use Rattle.entry_types.proofs.types.items_fit.Goals as goal

pub returns-in_err-field_is_item : goal.returns-in_err-field_is_item
returns-in_err-field_is_item c =
    let p = err_from_is_err_and c.from_residual.result c.from_residual.ensures.1 in
    ap told (p.1 ∙ ap (λ y. Err y) p.2)
    ∙ walked_off (items_walk c.args.declared.now c.args.items.now (list_path c.args.list)) c.args.fields.now c.loop-at.at c.index-fields-at.result _ _
    c.loop-at-test.true c.index-fields-at.is c.loop-at.invariant c.in_err-field_is_item.ensures

pub loop-at-preserved : goal.loop-at-preserved
loop-at-preserved c =
    walked_on (items_walk c.args.declared.now c.args.items.now (list_path c.args.list)) c.args.fields.now c.loop-at.at c.index-fields-at.result _
    c.loop-at-test.true c.index-fields-at.is c.loop-at.invariant c.in_ok-field_is_item.ensures

pub returns : goal.returns
returns c = walked_through (items_walk c.args.declared.now c.args.items.now (list_path c.args.list)) c.args.fields.now c.loop-at.at _ c.loop-at-test.false c.loop-at.invariant

use Rattle.std.proofs.Common.{◌∙◌, Err, ap, get_or}
use Rattle.std.proofs.lemmas.List.{get_or_default}
use Rattle.std.proofs.lemmas.Result.{err_from_is_err_and}
use Rattle.vk_core.specs.declared.ids.LocalId.{LocalId}
use Rattle.entry_types.specs.Paths.{list_path, told}
use Rattle.entry_types.proofs.Lists.{locals_walk}
use Rattle.entry_types.proofs.Walks.{walked_off, walked_on, walked_through}
use Rattle.entry_types.proofs.rules.locals_known.Goals as goal

abbrev none : LocalId
none = record { 0 = 0 }

pub returns-in_err-local_known : goal.returns-in_err-local_known
returns-in_err-local_known c =
    let local : LocalId = get_or c.args.locals.now c.loop-at.at none in
    let p = err_from_is_err_and c.from_residual.result c.from_residual.ensures.1 in
    ap told (p.1 ∙ ap (λ y. Err y) p.2)
    ∙ walked_off (locals_walk c.args.body.now (list_path c.args.list)) c.args.locals.now c.loop-at.at local _ _
    c.loop-at-test.true (get_or_default c.args.locals.now c.loop-at.at none local c.loop-at-test.true) c.loop-at.invariant c.in_err-local_known.ensures

pub loop-at-preserved : goal.loop-at-preserved
loop-at-preserved c =
    let local : LocalId = get_or c.args.locals.now c.loop-at.at none in
    walked_on (locals_walk c.args.body.now (list_path c.args.list)) c.args.locals.now c.loop-at.at local _
    c.loop-at-test.true (get_or_default c.args.locals.now c.loop-at.at none local c.loop-at-test.true) c.loop-at.invariant c.in_ok-local_known.ensures

pub returns : goal.returns
returns c = walked_through (locals_walk c.args.body.now (list_path c.args.list)) c.args.locals.now c.loop-at.at _ c.loop-at-test.false c.loop-at.invariant

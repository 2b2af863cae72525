use Rattle.std.proofs.Common.{◌∙◌, Err, ap}
use Rattle.std.proofs.lemmas.Result.{err_from_is_err_and}
use Rattle.entry_types.specs.Paths.{told}
use Rattle.entry_types.proofs.Lists.{vtables_walk}
use Rattle.entry_types.proofs.Walks.{walked_off, walked_on, walked_through}
use Rattle.entry_types.proofs.vtables.vtables_fit.Goals as goal

pub returns-in_err-vtable_fits : goal.returns-in_err-vtable_fits
returns-in_err-vtable_fits c =
    let p = err_from_is_err_and c.from_residual.result c.from_residual.ensures.1 in
    ap told (p.1 ∙ ap (λ y. Err y) p.2)
    ∙ walked_off (vtables_walk c.args.functions.now c.args.declared.now) c.args.vtables.now c.loop-at.at c.index-vtables-at.result _ _
    c.loop-at-test.true c.index-vtables-at.is c.loop-at.invariant c.in_err-vtable_fits.ensures

pub loop-at-preserved : goal.loop-at-preserved
loop-at-preserved c =
    walked_on (vtables_walk c.args.functions.now c.args.declared.now) c.args.vtables.now c.loop-at.at c.index-vtables-at.result _
    c.loop-at-test.true c.index-vtables-at.is c.loop-at.invariant c.in_ok-vtable_fits.ensures

pub returns : goal.returns
returns c = walked_through (vtables_walk c.args.functions.now c.args.declared.now) c.args.vtables.now c.loop-at.at _ c.loop-at-test.false c.loop-at.invariant

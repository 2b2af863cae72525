use Rattle.std.proofs.Common.{◌∙◌, Err, ap}
use Rattle.std.proofs.lemmas.Result.{err_from_is_err_and}
use Rattle.entry_types.specs.Paths.{list_path, told}
use Rattle.entry_types.proofs.Lists.{places_walk}
use Rattle.entry_types.proofs.Walks.{walked_off, walked_on, walked_through}
use Rattle.entry_types.proofs.known.places_fit.Goals as goal

pub returns-in_err-place_fits : goal.returns-in_err-place_fits
returns-in_err-place_fits c =
    let p = err_from_is_err_and c.from_residual.result c.from_residual.ensures.1 in
    ap told (p.1 ∙ ap (λ y. Err y) p.2)
    ∙ walked_off (places_walk c.args.declared.now c.args.body.now (list_path c.args.list)) c.args.places.now c.loop-at.at c.index-places-at.result _ _
    c.loop-at-test.true c.index-places-at.is c.loop-at.invariant c.in_err-place_fits.ensures

pub loop-at-preserved : goal.loop-at-preserved
loop-at-preserved c =
    walked_on (places_walk c.args.declared.now c.args.body.now (list_path c.args.list)) c.args.places.now c.loop-at.at c.index-places-at.result _
    c.loop-at-test.true c.index-places-at.is c.loop-at.invariant c.in_ok-place_fits.ensures

pub returns : goal.returns
returns c = walked_through (places_walk c.args.declared.now c.args.body.now (list_path c.args.list)) c.args.places.now c.loop-at.at _ c.loop-at-test.false c.loop-at.invariant

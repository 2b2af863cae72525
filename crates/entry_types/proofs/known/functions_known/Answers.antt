use Rattle.std.proofs.Common.{◌∙◌, Err, ap}
use Rattle.std.proofs.lemmas.Result.{err_from_is_err_and}
use Rattle.entry_types.specs.Paths.{list_path, told}
use Rattle.entry_types.proofs.Lists.{functions_walk}
use Rattle.entry_types.proofs.Walks.{walked_off, walked_on, walked_through}
use Rattle.entry_types.proofs.known.functions_known.Goals as goal

pub returns-in_err-function_known : goal.returns-in_err-function_known
returns-in_err-function_known c =
    let p = err_from_is_err_and c.from_residual.result c.from_residual.ensures.1 in
    ap told (p.1 ∙ ap (λ y. Err y) p.2)
    ∙ walked_off (functions_walk c.args.functions.now (list_path c.args.list)) c.args.names.now c.loop-at.at c.index-names-at.result _ _
    c.loop-at-test.true c.index-names-at.is c.loop-at.invariant c.in_err-function_known.ensures

pub loop-at-preserved : goal.loop-at-preserved
loop-at-preserved c =
    walked_on (functions_walk c.args.functions.now (list_path c.args.list)) c.args.names.now c.loop-at.at c.index-names-at.result _
    c.loop-at-test.true c.index-names-at.is c.loop-at.invariant c.in_ok-function_known.ensures

pub returns : goal.returns
returns c = walked_through (functions_walk c.args.functions.now (list_path c.args.list)) c.args.names.now c.loop-at.at _ c.loop-at-test.false c.loop-at.invariant

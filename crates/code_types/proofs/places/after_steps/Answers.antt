use Rattle.std.proofs.Common.{◌∙◌, Err, ap}
use Rattle.std.proofs.lemmas.Result.{err_from_is_err_and}
use Rattle.code_types.specs.Views.{ok_place}
use Rattle.code_types.proofs.ListLaws.{step_refused, step_taken, steps_end}
use Rattle.code_types.proofs.places.after_steps.Goals as goal

pub returns-in_err-reached : goal.returns-in_err-reached
returns-in_err-reached c =
    let p = err_from_is_err_and c.from_residual.result c.from_residual.ensures.1 in
    ap ok_place (p.1 ∙ ap (λ y. Err y) p.2) ∙
    step_refused c.args.declared.now c.args.body.now _ c.args.steps.now c.loop-taken.taken c.index-steps-taken.result _ _
    c.loop-taken-test.true c.index-steps-taken.is c.in_err-reached.ensures c.loop-taken.invariant

pub loop-taken-preserved : goal.loop-taken-preserved
loop-taken-preserved c =
    step_taken c.args.declared.now c.args.body.now _ _ c.args.steps.now c.loop-taken.taken c.index-steps-taken.result _
    c.loop-taken-test.true c.index-steps-taken.is c.in_ok-reached.ensures c.loop-taken.invariant

pub returns : goal.returns
returns c = steps_end c.args.declared.now c.args.body.now _ c.args.steps.now c.loop-taken.taken _ c.loop-taken-test.false c.loop-taken.invariant

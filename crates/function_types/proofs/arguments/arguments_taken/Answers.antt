use Rattle.std.proofs.Common.{◌∙◌, ◌+◌, ◌&&◌, Ok, ap, drop, refl}
use Rattle.type_rules.specs.Calls.{fit_arguments}
use Rattle.function_types.specs.Views.{signature_seen}
use Rattle.function_types.proofs.Taking.{fit_end, fit_more, typed_at, typed_end}
use Rattle.function_types.proofs.arguments.arguments_taken.Goals as goal

pub loop-place-preserved : goal.loop-place-preserved
loop-place-preserved c =
    let parameters = (signature_seen c.args.signature).parameters in
    typed_at c.args.declared.now c.args.body.now c.args.text_place (λ given. c.loop-place.taken && fit_arguments given (drop c.loop-place.place parameters))
    (λ given. c.both-taken.result && fit_arguments given (drop (c.loop-place.place + 1) parameters)) c.args.arguments.now c.loop-place.place
    c.index-arguments-place.result _ _ _ c.loop-place-test.true c.index-arguments-place.is refl c.in_ok-given.ensures
    (fit_more parameters c.loop-place.place _ c.parameter_at-parameter.result c.loop-place.taken c.is_taken.result c.both-taken.result c.parameter_at-parameter.ensures c.is_taken.ensures c.both-taken.ensures)
    c.loop-place.invariant

pub returns : goal.returns
returns c =
    let parameters = (signature_seen c.args.signature).parameters in
    ap (λ b. Ok b) (fit_end parameters c.loop-place.place c.parameter_at-next.result c.loop-place.taken c.is_none.result c.both-all.result c.parameter_at-next.ensures c.is_none.ensures c.both-all.ensures)
    ∙ typed_end c.args.declared.now c.args.body.now c.args.text_place (λ given. c.loop-place.taken && fit_arguments given (drop c.loop-place.place parameters)) c.args.arguments.now c.loop-place.place _
    c.loop-place-test.false c.loop-place.invariant

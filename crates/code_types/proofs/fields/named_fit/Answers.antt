use Rattle.std.proofs.Common.{◌∙◌, ◌+◌, Ok, ap, drop, sym, Err}
use Rattle.std.proofs.lemmas.Result.{err_from_is_err_and}
use Rattle.type_rules.specs.Aggregates.{fields_fit}
use Rattle.type_rules.specs.Refusals.{◌>>=◌, ◌>>◌}
use Rattle.type_rules.specs.Rvalues.{given_type}
use Rattle.type_rules.specs.Values.{type_of}
use Rattle.code_types.specs.Lists.{next_fits}
use Rattle.code_types.proofs.ListLaws.{fit_end, fit_more, refused_at, typed_at, typed_end}
use Rattle.code_types.proofs.fields.named_fit.Goals as goal

pub returns-in_err-typed : goal.returns-in_err-typed
returns-in_err-typed c =
    let o = c.index-given-place.result in
    let fields = c.args.fields.now in
    let p = err_from_is_err_and c.from_residual.result c.from_residual.ensures.1 in
    p.1 ∙ ap (λ y. Err y) p.2 ∙ refused_at (given_type c.args.declared.now c.args.body.now) (λ gs. c.loop-place.fits >> fields_fit fields (drop c.loop-place.place fields) gs) c.args.given.now c.loop-place.place o _ _
    c.loop-place-test.true c.index-given-place.is
    (λ i. c.in_err-typed.ensures i >>= λ t. Ok (record { name = o.name; ty = t })) c.loop-place.invariant

pub loop-place-preserved : goal.loop-place-preserved
loop-place-preserved c =
    let o = c.index-given-place.result in
    let fields = c.args.fields.now in
    let n = c.loop-place.place in
    typed_at (given_type c.args.declared.now c.args.body.now) (λ gs. c.loop-place.fits >> fields_fit fields (drop n fields) gs) (λ gs. c.next_fits-fits.result >> fields_fit fields (drop (n + 1) fields) gs)
    c.args.given.now n o _ _
    c.loop-place-test.true c.index-given-place.is
    (λ i. c.in_ok-typed.ensures i >>= λ t. Ok (record { name = o.name; ty = t }))
    (fit_more fields n o.name _ c.loop-place.fits c.next_fits-fits.result
    (c.next_fits-fits.ensures ∙ (λ i. next_fits c.loop-place.fits fields (drop n fields) (c.as_bytes.ensures i) (type_of c.in_ok-typed.typed))))
    c.loop-place.invariant

pub returns : goal.returns
returns c =
    let fields = c.args.fields.now in
    let n = c.loop-place.place in
    ap (λ r. Ok r) (c.all_given.ensures ∙ ap (λ r. c.loop-place.fits >> r) (sym (fit_end fields n)))
    ∙ typed_end (given_type c.args.declared.now c.args.body.now) (λ gs. c.loop-place.fits >> fields_fit fields (drop n fields) gs) c.args.given.now n _ c.loop-place-test.false c.loop-place.invariant

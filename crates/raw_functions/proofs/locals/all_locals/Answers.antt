use Rattle.std.proofs.Common.{◌≡◌, ◌++◌, ◌∷◌, [], Ok, ap, ◌∙◌}
use Rattle.std.proofs.lemmas.Result.{IfOk-at_ok}
use Rattle.raw_functions.specs.Steps.{local_zero}
use Rattle.raw_functions.specs.Meant.{by_number, locals_of, others_of, result_type}
use Rattle.raw_functions.proofs.Joining.{locals_joined}
use Rattle.raw_functions.proofs.locals.all_locals.Goals as goal

pub returns : goal.returns
returns c =
    let two : (c.parameters_of-parameters.result ≡ Ok c.in_ok-parameters.parameters) × (c.result_type-ty.result ≡ Ok c.in_ok-parameters.ty)
    = IfOk-at_ok (λ pair. (c.parameters_of-parameters.result ≡ Ok pair.0) × (c.result_type-ty.result ≡ Ok pair.1)) c.in_ok-parameters.ensures.0 c.both.ensures in
    let parameters : c.in_ok-parameters.parameters.items ≡ locals_of c.args.parameters = IfOk-at_ok (λ v. v.items ≡ locals_of c.args.parameters) two.0 c.parameters_of-parameters.ensures in
    let ty : c.in_ok-parameters.ty ≡ result_type c.args.written.now c.as_slice.result.now = IfOk-at_ok (λ v. v ≡ result_type c.args.written.now c.as_slice.result.now) two.1 c.result_type-ty.ensures in
    let others : c.in_ok-parameters.others.items ≡ by_number (others_of c.args.items) = IfOk-at_ok (λ v. v.items ≡ by_number (others_of c.args.items)) c.in_ok-parameters.ensures.1 c.sorted_others-others.ensures in
    let first : c.in_ok-others.first.items ≡ c.in_ok-parameters.parameters.items ++ local_zero c.in_ok-parameters.ty ∷ []
    = IfOk-at_ok (λ v. v.items ≡ c.in_ok-parameters.parameters.items ++ local_zero c.in_ok-parameters.ty ∷ []) c.in_ok-others.ensures.1 c.with_result.ensures in
    locals_joined c.args.parameters c.args.written.now c.args.items c.in_ok-parameters.parameters.items c.in_ok-others.first.items c.in_ok-others.others.items c.in_ok-locals.locals c.in_ok-parameters.ty
    parameters (ty ∙ ap (λ l. result_type c.args.written.now l) c.as_slice.ensures) (ap (λ v. v.items) c.in_ok-others.ensures.0 ∙ others) first c.in_ok-locals.ensures

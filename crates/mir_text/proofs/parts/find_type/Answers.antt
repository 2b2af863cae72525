use Rattle.std.proofs.Common.{None, Some, refl, sym, ◌∙◌, subst}
use Rattle.mir_text.specs.Answers.{HasTokens}
use Rattle.mir_text.specs.Coded.{HasNoTokens}
use Rattle.mir_text.proofs.Finding.{when_none, when_some, no_type, type_found}
use Rattle.mir_text.proofs.parts.find_type.Goals as goal

pub returns-in_default : goal.returns-in_default
returns-in_default c = no_type c.args.text.now (when_none c.in_ok-tokens.field-0 (HasNoTokens c.args.text.now) (λ tokens. HasTokens c.args.text.now tokens.items) c.in_ok-tokens.ensures c.in_default.is)

pub returns-in-None : goal.returns-in-None
returns-in-None c = type_found c.args.text.now c.as_slice.result.now None None
    (subst (HasTokens c.args.text.now) (sym c.as_slice.ensures.value) (when_some c.in_ok-tokens.field-0 c.in-Some.tokens (HasNoTokens c.args.text.now) (λ tokens. HasTokens c.args.text.now tokens.items) c.in_ok-tokens.ensures c.in-Some.is))
    (sym c.in-None.is ∙ c.in_ok-type_in.ensures) refl

pub returns : goal.returns
returns c = type_found c.args.text.now c.as_slice.result.now (Some c.in-Some-2.named) c.short_type.result
    (subst (HasTokens c.args.text.now) (sym c.as_slice.ensures.value) (when_some c.in_ok-tokens.field-0 c.in-Some.tokens (HasNoTokens c.args.text.now) (λ tokens. HasTokens c.args.text.now tokens.items) c.in_ok-tokens.ensures c.in-Some.is))
    (sym c.in-Some-2.is ∙ c.in_ok-type_in.ensures) c.short_type.ensures

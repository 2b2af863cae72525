use Rattle.std.proofs.Common.{◌≡◌, ℕ, sym, ap, ◌∙◌, subst}
use Rattle.region_pool.specs.Literals.{negation}
use Rattle.sat_core.specs.declared.trail.Step.{Step}
use Rattle.sat_core.specs.Learned.{IsLinePair}
use Rattle.sat_core.specs.Steps.{step_at}
use Rattle.sat_core.proofs.LineLemmas.{pair_two, pair_one}
use Rattle.sat_core.proofs.learn.cut_of.Goals as goal

pub returns-in-Some-clause-pair : goal.returns-in-Some-clause-pair
returns-in-Some-clause-pair c =
    let trail = c.args.trail.now in
    let steps = trail.steps in
    let roles = c.args.roles.now in
    let asserted : ℕ = c.args.asserted in
    let top : ℕ = c.in-Some.top in
    let cut : ℕ = c.first_decision.result in
    let first : c.negation_of-first.result ≡ negation (step_at steps asserted).literal = c.negation_of-first.ensures ∙ ap (λ (s : Step). negation s.literal) c.step.ensures in
    let second : c.negation_of.result ≡ negation (step_at steps top).literal = c.negation_of.ensures ∙ ap (λ (s : Step). negation s.literal) c.step-in-Some.ensures in
    let pair = pair_two trail.variables steps roles c.args.decision asserted c.requires.fit c.requires.long c.requires.asserted top cut c.in-Some.ensures c.requires.decision.within c.first_decision.ensures in
    subst (λ (n : ℕ). IsLinePair steps roles asserted cut (record { first = n; second = c.negation_of.result })) (sym first)
    (subst (λ (n : ℕ). IsLinePair steps roles asserted cut (record { first = negation (step_at steps asserted).literal; second = n })) (sym second) pair)

pub returns-in-None-clause-pair : goal.returns-in-None-clause-pair
returns-in-None-clause-pair c =
    let trail = c.args.trail.now in
    let steps = trail.steps in
    let roles = c.args.roles.now in
    let asserted : ℕ = c.args.asserted in
    let cut : ℕ = c.first_decision-in-None.result in
    let first : c.negation_of-first.result ≡ negation (step_at steps asserted).literal = c.negation_of-first.ensures ∙ ap (λ (s : Step). negation s.literal) c.step.ensures in
    subst (λ (n : ℕ). IsLinePair steps roles asserted cut (record { first = n; second = n })) (sym first)
    (pair_one trail.variables steps roles c.args.decision asserted c.requires.fit c.requires.long c.requires.asserted cut c.first_decision-in-None.ensures)

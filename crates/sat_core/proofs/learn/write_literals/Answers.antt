use Rattle.std.proofs.Common.{◌≡◌, ◌≢◌, ◌<◌, ◌++◌, ◌∷◌, [], ℕ, List, length, take, refl, sym, ap, ◌∙◌, arith, Vec, Global}
use Rattle.std.proofs.lemmas.List.{append-nil}
use Rattle.region_pool.specs.Literals.{negation}
use Rattle.sat_core.specs.declared.roles.Role.{Role}
use Rattle.sat_core.specs.declared.roles.Role.TheVariants.{Unused, Kept, Resolved}
use Rattle.sat_core.specs.declared.trail.Step.{Step}
use Rattle.sat_core.specs.Learned.{gather, literals_of_role}
use Rattle.sat_core.specs.Roles.{role_at}
use Rattle.sat_core.specs.Steps.{step_at}
use Rattle.sat_core.proofs.GatherLemmas.{gather-more}
use Rattle.sat_core.proofs.learn.write_literals.Goals as goal
use Rattle.sat_core.proofs.learn.write_literals.Goals.{in-Kept+in_ok-push, in_default}

pub loop-at-preserved : goal.loop-at-preserved
loop-at-preserved c =
    let steps = c.args.trail.now.steps in
    let roles = c.args.roles.now in
    let at : ℕ = c.loop-at.at in
    let h : at < length steps = omega (arith, c.len-at-end.ensures) in
    let more = gather-more literals_of_role steps roles at (sym c.requires) h in
    elim c.match-roles-at.branch [
      | in-Kept+in_ok-push w ↦
          let role : role_at roles at ≡ Kept = w.in-Kept.is in
          let x : w.negation_of.result ≡ negation (step_at steps at).literal = w.negation_of.ensures ∙ ap (λ (s : Step). negation s.literal) w.step.ensures in
          let items = w.in_ok-push.ensures.items in
          let new : c.match-roles-at.literals.items ≡ c.loop-at.literals.items ++ negation (step_at steps at).literal ∷ [] = ap (λ (v : Vec ℕ Global). v.items) w.literals-is ∙ items ∙ ap (λ (n : ℕ). c.loop-at.literals.items ++ n ∷ []) x in
          let here : literals_of_role (role_at roles at) (step_at steps at) ≡ negation (step_at steps at).literal ∷ [] = ap (λ (r : Role). literals_of_role r (step_at steps at)) role in
          new ∙ ap (λ (s : List ℕ). s ++ negation (step_at steps at).literal ∷ []) c.loop-at.invariant ∙ ap (λ (s : List ℕ). gather literals_of_role (take at steps) (take at roles) ++ s) (sym here) ∙ sym more
      | in_default w ↦
          let here : literals_of_role (role_at roles at) (step_at steps at) ≡ [] = not_kept (role_at roles at) (step_at steps at) w.in_default.not-Kept in
          ap (λ (v : Vec ℕ Global). v.items) w.literals-is ∙ c.loop-at.invariant ∙ sym (append-nil (gather literals_of_role (take at steps) (take at roles))) ∙ ap (λ (s : List ℕ). gather literals_of_role (take at steps) (take at roles) ++ s) (sym here) ∙ sym more
    ]
  where
    not_kept : (role : Role) (step : Step) → role ≢ Kept → literals_of_role role step ≡ []
    not_kept Unused step n = refl
    not_kept Kept step n = absurd (n refl)
    not_kept Resolved step n = refl

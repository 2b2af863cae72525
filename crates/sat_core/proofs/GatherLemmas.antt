-- What is gathered from steps and their roles.
use Rattle.std.proofs.Common.{◌≡◌, ℕ, zero, suc, ◌+◌, ◌<◌, List, [], ◌∷◌, ◌++◌, length, take, drop, Contains, inl, inr, refl, sym, ap, ◌∙◌, arith, append_assoc}
use Rattle.std.proofs.lemmas.List.{take_more, drop_more, append-nil, length-take-le}
use Rattle.std.proofs.lemmas.List.Elements.{Contains-append_left, Contains-append_right, Contains-append_cases}
use Rattle.sat_core.specs.declared.roles.Role.{Role}
use Rattle.sat_core.specs.declared.roles.Role.TheVariants.{Unused}
use Rattle.sat_core.specs.declared.trail.Cause.TheVariants.{Decision}
use Rattle.sat_core.specs.declared.trail.Step.{Step}
use Rattle.sat_core.specs.Learned.{gather}
use Rattle.sat_core.specs.Roles.{role_at}
use Rattle.sat_core.specs.Steps.{step_at}

pub gather-push : (f : Role → Step → List ℕ) (steps : List Step) (roles : List Role) (step : Step) (role : Role) → length steps ≡ length roles → gather f (steps ++ step ∷ []) (roles ++ role ∷ []) ≡ gather f steps roles ++ f role step
gather-push f [] [] step role e = append-nil (f role step)
gather-push f [] (x ∷ roles) step role e = absurd (omega arith)
gather-push f (x ∷ steps) [] step role e = absurd (omega arith)
gather-push f (x ∷ steps) (y ∷ roles) step role e =
    ap (λ s. f y x ++ s) (gather-push f steps roles step role (omega arith)) ∙ sym (append_assoc (f y x) (gather f steps roles) (f role step))

pub gather-more : (f : Role → Step → List ℕ) (steps : List Step) (roles : List Role) (at : ℕ) → length steps ≡ length roles → at < length steps → gather f (take (at + 1) steps) (take (at + 1) roles) ≡ gather f (take at steps) (take at roles) ++ f (role_at roles at) (step_at steps at)
gather-more f steps roles at e h =
    rw (take_more steps at (record { literal = 0; cause = Decision }) h, take_more roles at Unused (omega arith)) (gather-push f (take at steps) (take at roles) (step_at steps at) (role_at roles at) (rw (length-take-le at steps (omega arith), length-take-le at roles (omega arith)) refl))

pub gather-drop : (f : Role → Step → List ℕ) (steps : List Step) (roles : List Role) (at : ℕ) → length steps ≡ length roles → at < length steps → gather f (drop at steps) (drop at roles) ≡ f (role_at roles at) (step_at steps at) ++ gather f (drop (at + 1) steps) (drop (at + 1) roles)
gather-drop f steps roles at e h =
    rw (drop_more steps at (record { literal = 0; cause = Decision }) h, drop_more roles at Unused (omega arith)) refl

-- where a gathered number comes from
pub gather-from : (f : Role → Step → List ℕ) (steps : List Step) (roles : List Role) (x : ℕ) → Contains (gather f steps roles) x → (at : ℕ) × (at < length steps) × (at < length roles) × Contains (f (role_at roles at) (step_at steps at)) x
gather-from f [] roles x (k, h, e) = absurd (omega arith)
gather-from f (step ∷ steps) [] x (k, h, e) = absurd (omega arith)
gather-from f (step ∷ steps) (role ∷ roles) x c =
    elim (Contains-append_cases (f role step) (gather f steps roles) x c) [
      | inl here ↦ (zero, omega arith, omega arith, here)
      | inr there ↦ let (at, h, k, m) = gather-from f steps roles x there in (suc at, omega arith, omega arith, m)
    ]

pub gather-has : (f : Role → Step → List ℕ) (steps : List Step) (roles : List Role) (at x : ℕ) → at < length steps → at < length roles → Contains (f (role_at roles at) (step_at steps at)) x → Contains (gather f steps roles) x
gather-has f [] roles at x h k m = absurd (omega arith)
gather-has f (step ∷ steps) [] at x h k m = absurd (omega arith)
gather-has f (step ∷ steps) (role ∷ roles) zero x h k m = Contains-append_left (f role step) (gather f steps roles) x m
gather-has f (step ∷ steps) (role ∷ roles) (suc at) x h k m = Contains-append_right (f role step) (gather f steps roles) x (gather-has f steps roles at x (omega arith) (omega arith) m)

-- The literals of steps, by place.
use Rattle.std.proofs.Common.{◌≡◌, ℕ, ◌<◌, ◌≤◌, List, [], ◌∷◌, ◌++◌, length, get_or, take, Contains, inl, inr, sym, ap, ◌∙◌, subst, arith, length-append, length-take}
use Rattle.std.proofs.lemmas.Bool.{cases_lt}
use Rattle.std.proofs.lemmas.List.{get_or-map, get_or-take, take-append-le, take_at, get_or_append_left, get_or_push, length-take-le, take-take, length-map}
use Rattle.sat_core.specs.declared.trail.Step.{Step}
use Rattle.sat_core.specs.Steps.{literals_of_steps, step_at, EachStep}

pub literals_at : (steps : List Step) (at d : ℕ) → at < length steps → get_or (literals_of_steps steps) at d ≡ (step_at steps at).literal
literals_at steps at d h = get_or-map (λ step. step.literal) steps at _ d h

pub holds_at : (steps : List Step) (at : ℕ) → at < length steps → Contains (literals_of_steps steps) (step_at steps at).literal
holds_at steps at h = (at, rw length-map h, literals_at steps at _ h)

pub place_of : (steps : List Step) (literal : ℕ) → Contains (literals_of_steps steps) literal → (at : ℕ) × (at < length steps) × ((step_at steps at).literal ≡ literal)
place_of steps literal (at, h, e) =
    let k : at < length steps = rw length-map at h in
    (at, k, sym (literals_at steps at literal k) ∙ e)

pub step_at_take : (steps : List Step) (at n : ℕ) → at < n → step_at (take n steps) at ≡ step_at steps at
step_at_take steps at n h = get_or-take n steps at _ h

pub holds_before : (steps : List Step) (at n : ℕ) → at < n → n ≤ length steps → Contains (literals_of_steps (take n steps)) (step_at steps at).literal
holds_before steps at n h k =
    let l : at < length (take n steps) = rw (length-take-le n steps k) h in
    subst (λ (s : Step). Contains (literals_of_steps (take n steps)) s.literal) (step_at_take steps at n h) (holds_at (take n steps) at l)

pub place_before : (steps : List Step) (n literal : ℕ) → n ≤ length steps → Contains (literals_of_steps (take n steps)) literal → (at : ℕ) × (at < n) × ((step_at steps at).literal ≡ literal)
place_before steps n literal k c =
    let p = place_of (take n steps) literal c in
    let l : p.0 < n = rw (length-take-le n steps k) at p.1 in
    (p.0, l, ap (λ (s : Step). s.literal) (sym (step_at_take steps p.0 n l)) ∙ p.2)

pub EachStep-push : (P : List ℕ → Step → Type 0) (steps : List Step) (step : Step) → EachStep P steps → P (literals_of_steps steps) step → EachStep P (steps ++ step ∷ [])
EachStep-push P steps step each here at h =
    elim (cases_lt at (length steps)) [
      | inl k ↦ rw (take-append-le at steps (step ∷ []) (omega arith), get_or_append_left steps (step ∷ []) _ at k) (each at k)
      | inr k ↦
          let e : length steps ≡ at = omega (arith, length-append steps (step ∷ [])) in
          rw (take_at steps (step ∷ []) at e, get_or_push steps step _ at e) here
    ]

pub EachStep-take : (P : List ℕ → Step → Type 0) (n : ℕ) (steps : List Step) → EachStep P steps → EachStep P (take n steps)
EachStep-take P n steps each at h =
    let m = length-take n steps in
    let k : at < n = omega arith in
    let j : at < length steps = omega arith in
    rw (take-take at n steps (omega arith), get_or-take n steps at _ k) (each at j)

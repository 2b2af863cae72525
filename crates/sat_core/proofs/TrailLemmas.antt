-- What a trail keeps, when a step is added or taken away.
use Rattle.std.proofs.Common.{◌≡◌, ◌≢◌, ℕ, ◌+◌, ◌<◌, ◌≤◌, List, [], ◌∷◌, ◌++◌, length, get_or, set, take, Contains, inl, inr, refl, sym, ap, ◌∙◌, subst, arith, length-set}
use Rattle.std.proofs.lemmas.Bool.{cases_lt, cases_eq}
use Rattle.std.proofs.lemmas.List.{get_or-set_same, get_or-set_other, get_or_append_left, get_or_push, length_push, take_at, take-take, get_or_past}
use Rattle.region_pool.specs.Clauses.{IsLiteral}
use Rattle.region_pool.specs.Refutation.{IsOpen}
use Rattle.sat_core.specs.declared.trail.Step.{Step}
use Rattle.sat_core.specs.Steps.{literals_of_steps, step_at, EachStep, Fits}
use Rattle.sat_core.specs.Trail.{IsPlaced}
use Rattle.sat_core.proofs.StepLemmas.{holds_at, EachStep-push, EachStep-take}

pub step_at_left : (steps : List Step) (step : Step) (at : ℕ) → at < length steps → step_at (steps ++ step ∷ []) at ≡ step_at steps at
step_at_left steps step at h = get_or_append_left steps (step ∷ []) _ at h

pub step_at_end : (steps : List Step) (step : Step) (at : ℕ) → length steps ≡ at → step_at (steps ++ step ∷ []) at ≡ step
step_at_end steps step at h = get_or_push steps step _ at h

-- a literal that is open is that of no step
pub open_apart : (steps : List Step) (literal at : ℕ) → IsOpen (literals_of_steps steps) literal → at < length steps → (step_at steps at).literal ≢ literal
open_apart steps literal at free h e = free.0 (subst (λ n. Contains (literals_of_steps steps) n) e (holds_at steps at h))

pub IsPlaced-push : (variables : ℕ) (places : List ℕ) (steps : List Step) (step : Step) → IsPlaced variables places steps → IsLiteral variables step.literal → IsOpen (literals_of_steps steps) step.literal → IsPlaced variables (set places step.literal (length steps + 1)) (steps ++ step ∷ [])
IsPlaced-push variables places steps step placed fits free =
    let literal : ℕ = step.literal in
    let long : length (steps ++ step ∷ []) ≡ length steps + 1 = length_push steps step in
    let within : literal < length places = omega (arith, placed.size) in
    record {
      size = length-set places literal (length steps + 1) ∙ placed.size;
      inside = λ l h. elim (cases_eq l literal) [
        | inl e ↦ rw e (rw (get_or-set_same places literal (length steps + 1) 0 within) (omega arith))
        | inr n ↦
            let k = get_or-set_other places literal l (length steps + 1) 0 n in
            let i : get_or places l 0 ≤ length steps = placed.inside l (rw k at h) in
            rw k (omega arith)
      ];
      here = λ at h. elim (cases_lt at (length steps)) [
        | inl k ↦ rw (step_at_left steps step at k) (get_or-set_other places literal _ (length steps + 1) 0 (open_apart steps literal at free k) ∙ placed.here at k)
        | inr k ↦
            let e : length steps ≡ at = omega arith in
            rw (step_at_end steps step at e, get_or-set_same places literal (length steps + 1) 0 within, e) refl
      ];
      literal_there = λ l at h. elim (cases_eq l literal) [
        | inl e ↦
            let g : get_or (set places literal (length steps + 1)) literal 0 ≡ at + 1 = rw e at h in
            let k : length steps ≡ at = omega (arith, get_or-set_same places literal (length steps + 1) 0 within) in
            rw (step_at_end steps step at k) (sym e)
        | inr n ↦
            let k = get_or-set_other places literal l (length steps + 1) 0 n in
            let g : get_or places l 0 ≡ at + 1 = sym k ∙ h in
            let i : get_or places l 0 ≤ length steps = placed.inside l (omega arith) in
            let j : at < length steps = omega arith in
            rw (step_at_left steps step at j) (placed.literal_there l at g)
      ];
      fit = EachStep-push (Fits variables) steps step placed.fit (fits, free);
    }

-- the last step goes, and the place of its literal
pub IsPlaced-pop : (variables : ℕ) (places : List ℕ) (steps : List Step) (step : Step) → IsPlaced variables places (steps ++ step ∷ []) → IsPlaced variables (set places step.literal 0) steps
IsPlaced-pop variables places steps step placed =
    let literal : ℕ = step.literal in
    let long : length (steps ++ step ∷ []) ≡ length steps + 1 = length_push steps step in
    let last : length steps < length (steps ++ step ∷ []) = omega arith in
    let at_end : get_or places literal 0 ≡ length steps + 1 = subst (λ (s : Step). get_or places s.literal 0 ≡ length steps + 1) (step_at_end steps step (length steps) refl) (placed.here (length steps) last) in
    let within : literal < length places = within_read places literal (omega arith) in
    record {
      size = length-set places literal 0 ∙ placed.size;
      inside = λ l h. elim (cases_eq l literal) [
        | inl e ↦
            let g : 0 < get_or (set places literal 0) literal 0 = rw e at h in
            absurd (omega (arith, get_or-set_same places literal 0 0 within))
        | inr n ↦
            let k = get_or-set_other places literal l 0 0 n in
            let p : 0 < get_or places l 0 = rw k at h in
            let i : get_or places l 0 ≤ length (steps ++ step ∷ []) = placed.inside l p in
            let ne : get_or places l 0 ≢ length steps + 1 = λ e. n (sym (placed.literal_there l (length steps) e) ∙ ap (λ (s : Step). s.literal) (step_at_end steps step (length steps) refl)) in
            rw k (omega arith)
      ];
      here = λ at h.
          let k : get_or places (step_at steps at).literal 0 ≡ at + 1 = subst (λ (s : Step). get_or places s.literal 0 ≡ at + 1) (step_at_left steps step at h) (placed.here at (omega arith)) in
          let n : (step_at steps at).literal ≢ literal = λ e. let f : get_or places literal 0 ≡ at + 1 = rw e at k in omega arith in
          get_or-set_other places literal _ 0 0 n ∙ k;
      literal_there = λ l at h. elim (cases_eq l literal) [
        | inl e ↦
            let g : get_or (set places literal 0) literal 0 ≡ at + 1 = rw e at h in
            absurd (omega (arith, get_or-set_same places literal 0 0 within))
        | inr n ↦
            let k = get_or-set_other places literal l 0 0 n in
            let g : get_or places l 0 ≡ at + 1 = sym k ∙ h in
            let i : get_or places l 0 ≤ length (steps ++ step ∷ []) = placed.inside l (omega arith) in
            let t = placed.literal_there l at g in
            elim (cases_lt at (length steps)) [
              | inl j ↦ subst (λ (s : Step). s.literal ≡ l) (step_at_left steps step at j) t
              | inr j ↦
                  let e : length steps ≡ at = omega arith in
                  absurd (n (sym t ∙ ap (λ (s : Step). s.literal) (step_at_end steps step at e)))
            ]
      ];
      fit = subst (λ (s : List Step). EachStep (Fits variables) s) (take_at steps (step ∷ []) (length steps) refl) (EachStep-take (Fits variables) (length steps) (steps ++ step ∷ []) placed.fit);
    }
  where
    within_read : (places : List ℕ) (literal : ℕ) → 0 < get_or places literal 0 → literal < length places
    within_read places literal h = elim (cases_lt literal (length places)) [ inl k ↦ k | inr k ↦ absurd (omega (arith, get_or_past places literal 0 k)) ]

-- a prefix without its last step is a prefix
pub shorter_prefix : (all steps rest : List Step) (step : Step) → steps ≡ rest ++ step ∷ [] → steps ≡ take (length steps) all → rest ≡ take (length rest) all
shorter_prefix all steps rest step e prefix =
    let long : length (rest ++ step ∷ []) ≡ length rest + 1 = length_push rest step in
    let count : length steps ≡ length rest + 1 = ap length e ∙ long in
    sym (take_at rest (step ∷ []) (length rest) refl) ∙ ap (take (length rest)) (sym e ∙ prefix) ∙ take-take (length rest) (length steps) all (omega arith)

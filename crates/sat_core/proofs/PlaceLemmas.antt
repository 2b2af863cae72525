-- What the places of a trail say of its literals.
use Rattle.std.proofs.Common.{◌≡◌, ◌≢◌, ℕ, ◌+◌, ◌-◌, ◌<◌, List, length, get_or, take, Contains, inl, inr, sym, ap, ◌∙◌, subst, arith}
use Rattle.std.proofs.lemmas.Bool.{cases_lt, cases_eq}
use Rattle.region_pool.specs.Literals.{negation}
use Rattle.region_pool.specs.Refutation.{IsFalse, IsOpen}
use Rattle.sat_core.specs.declared.trail.Step.{Step}
use Rattle.sat_core.specs.Steps.{literals_of_steps, step_at, EachStep, Fits}
use Rattle.sat_core.specs.Trail.{IsPlaced}
use Rattle.sat_core.proofs.Negations.{negation-negation, negation-apart}
use Rattle.sat_core.proofs.StepLemmas.{holds_at, holds_before, place_of}

pub placed_contains : (variables : ℕ) (places : List ℕ) (steps : List Step) (literal : ℕ) → IsPlaced variables places steps → get_or places literal 0 ≢ 0 → Contains (literals_of_steps steps) literal
placed_contains variables places steps literal placed h =
    let at : ℕ = get_or places literal 0 - 1 in
    let e : get_or places literal 0 ≡ at + 1 = omega arith in
    let k : at < length steps = omega (arith, placed.inside literal (omega arith)) in
    subst (λ n. Contains (literals_of_steps steps) n) (placed.literal_there literal at e) (holds_at steps at k)

pub contains_placed : (variables : ℕ) (places : List ℕ) (steps : List Step) (literal : ℕ) → IsPlaced variables places steps → Contains (literals_of_steps steps) literal → get_or places literal 0 ≢ 0
contains_placed variables places steps literal placed h =
    let p = place_of steps literal h in
    let e : get_or places literal 0 ≡ p.0 + 1 = rw p.2 at (placed.here p.0 p.1) in
    omega arith

-- no literal is true beside its negation
pub steps_consistent : (variables : ℕ) (steps : List Step) (literal : ℕ) → EachStep (Fits variables) steps → Contains (literals_of_steps steps) literal → ¬ IsFalse (literals_of_steps steps) literal
steps_consistent variables steps literal fit here there =
    let p = place_of steps literal here in
    let q = place_of steps (negation literal) there in
    elim (cases_lt p.0 q.0) [
      | inl k ↦
          let open_q = (fit q.0 q.1).1 in
          let c : Contains (literals_of_steps (take q.0 steps)) (step_at steps p.0).literal = holds_before steps p.0 q.0 k (omega arith) in
          open_q.1 (rw (q.2, negation-negation literal) (rw p.2 at c))
      | inr k ↦ elim (cases_eq p.0 q.0) [
        | inl e ↦ absurd (negation-apart literal (sym q.2 ∙ ap (λ (n : ℕ). (step_at steps n).literal) (sym e) ∙ p.2))
        | inr n ↦
            let open_p = (fit p.0 p.1).1 in
            let c : Contains (literals_of_steps (take p.0 steps)) (step_at steps q.0).literal = holds_before steps q.0 p.0 (omega arith) (omega arith) in
            open_p.1 (rw p.2 (rw q.2 at c))
      ]
    ]

pub truth_true : (variables : ℕ) (places : List ℕ) (steps : List Step) (literal : ℕ) → IsPlaced variables places steps → get_or places literal 0 ≢ 0 → Contains (literals_of_steps steps) literal × (¬ IsFalse (literals_of_steps steps) literal)
truth_true variables places steps literal placed h =
    let c = placed_contains variables places steps literal placed h in
    (c, steps_consistent variables steps literal placed.fit c)

pub truth_open : (variables : ℕ) (places : List ℕ) (steps : List Step) (literal : ℕ) → IsPlaced variables places steps → get_or places literal 0 ≡ 0 → get_or places (negation literal) 0 ≡ 0 → IsOpen (literals_of_steps steps) literal
truth_open variables places steps literal placed h k =
    (λ c. contains_placed variables places steps literal placed c h, λ c. contains_placed variables places steps (negation literal) placed c k)

pub truth_false : (variables : ℕ) (places : List ℕ) (steps : List Step) (literal : ℕ) → IsPlaced variables places steps → get_or places literal 0 ≡ 0 → get_or places (negation literal) 0 ≢ 0 → IsFalse (literals_of_steps steps) literal × (¬ Contains (literals_of_steps steps) literal)
truth_false variables places steps literal placed h k =
    (placed_contains variables places steps (negation literal) placed k, λ c. contains_placed variables places steps literal placed c h)

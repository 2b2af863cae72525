-- Clauses that propagation has nothing to do with.
use Rattle.std.proofs.Common.{◌≡◌, ◌≢◌, ◌⊎◌, ℕ, List, Contains, inl, inr, sym, ◌∙◌, subst}
use Rattle.std.proofs.lemmas.List.Elements.{All-contains}
use Rattle.region_pool.specs.Refutation.{IsFalse, IsOpen}
use Rattle.sat_core.specs.Quiet.{IsQuiet}

pub quiet_by_true : (assigned clause : List ℕ) (literal : ℕ) → Contains clause literal → Contains assigned literal → (¬ IsFalse assigned literal) → IsQuiet assigned clause
quiet_by_true assigned clause literal here holds not_false = (
  λ all. not_false (All-contains (IsFalse assigned) clause literal all here),
  λ other unit. elim (All-contains (λ x. (x ≡ other) ⊎ IsFalse assigned x) clause literal unit.others here) [
    | inl e ↦ unit.free.0 (subst (λ n. Contains assigned n) e holds)
    | inr f ↦ not_false f
  ],
)

pub quiet_by_two : (assigned clause : List ℕ) (a b : ℕ) → Contains clause a → Contains clause b → IsOpen assigned a → IsOpen assigned b → a ≢ b → IsQuiet assigned clause
quiet_by_two assigned clause a b has_a has_b open_a open_b apart = (
  λ all. open_a.1 (All-contains (IsFalse assigned) clause a all has_a),
  λ other unit. elim (All-contains (λ x. (x ≡ other) ⊎ IsFalse assigned x) clause a unit.others has_a) [
    | inl e ↦ elim (All-contains (λ x. (x ≡ other) ⊎ IsFalse assigned x) clause b unit.others has_b) [
      | inl f ↦ apart (e ∙ sym f)
      | inr f ↦ open_b.1 f
    ]
    | inr f ↦ open_a.1 f
  ],
)

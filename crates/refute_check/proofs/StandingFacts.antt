-- How a clause stands after one literal more.
use Rattle.std.proofs.Common.{◌≡◌, ◌≢◌, ◌⊎◌, ℕ, List, [], ◌∷◌, ◌++◌, Option, Some, None, refl, subst, inl, inr}
use Rattle.std.specs.Prelude.{Contains}
use Rattle.std.proofs.lemmas.List.Elements.{All-push, All-weaker, All-contains, Contains-append_left, Contains-push}
use Rattle.region_pool.specs.Refutation.{IsFalse, IsOpen, IsFalsified, IsUnit}

-- what is known of the literals so far: all are false, or just this one is not
abbrev pub StandsSoFar : List ℕ → List ℕ → Option ℕ → Type 0
StandsSoFar assigned clause None = IsFalsified assigned clause
StandsSoFar assigned clause (Some literal) = IsUnit assigned clause literal

pub false_more : (assigned clause : List ℕ) (forced : Option ℕ) (literal : ℕ) → IsFalse assigned literal → StandsSoFar assigned clause forced → StandsSoFar assigned (clause ++ literal ∷ []) forced
false_more assigned clause None literal is_false stands = All-push (IsFalse assigned) clause literal stands is_false
false_more assigned clause (Some other) literal is_false stands = record {
  member = Contains-append_left clause (literal ∷ []) other stands.member;
  free = stands.free;
  others = All-push (λ x. (x ≡ other) ⊎ IsFalse assigned x) clause literal stands.others (inr is_false);
}

pub open_first : (assigned clause : List ℕ) (literal : ℕ) → IsOpen assigned literal → IsFalsified assigned clause → IsUnit assigned (clause ++ literal ∷ []) literal
open_first assigned clause literal free falsified = record {
  member = Contains-push clause literal;
  free = free;
  others = All-push (λ x. (x ≡ literal) ⊎ IsFalse assigned x) clause literal (All-weaker (IsFalse assigned) (λ x. (x ≡ literal) ⊎ IsFalse assigned x) (λ x f. inr f) clause falsified) (inl refl);
}

pub open_again : (assigned clause : List ℕ) (literal : ℕ) → IsUnit assigned clause literal → IsUnit assigned (clause ++ literal ∷ []) literal
open_again assigned clause literal unit = record {
  member = Contains-append_left clause (literal ∷ []) literal unit.member;
  free = unit.free;
  others = All-push (λ x. (x ≡ literal) ⊎ IsFalse assigned x) clause literal unit.others (inl refl);
}

-- the clause is neither falsified nor does it force a literal
abbrev pub IsNeither : List ℕ → List ℕ → Type 0
IsNeither assigned clause = (¬ IsFalsified assigned clause) × ((literal : ℕ) → ¬ IsUnit assigned clause literal)

-- a true literal
pub neither_by_true : (assigned clause : List ℕ) (literal : ℕ) → Contains clause literal → Contains assigned literal → (¬ IsFalse assigned literal) → IsNeither assigned clause
neither_by_true assigned clause literal member is_true not_false = (
  λ falsified. not_false (All-contains (IsFalse assigned) clause literal falsified member),
  λ other unit. elim (All-contains (λ x. (x ≡ other) ⊎ IsFalse assigned x) clause literal unit.others member) [
    | inl same ↦ unit.free.0 (subst (Contains assigned) same is_true)
    | inr is_false ↦ not_false is_false
  ],
)

-- two literals that are not false
pub neither_by_two : (assigned clause : List ℕ) (a b : ℕ) → Contains clause a → Contains clause b → (¬ IsFalse assigned a) → (¬ IsFalse assigned b) → a ≢ b → IsNeither assigned clause
neither_by_two assigned clause a b member_a member_b not_false_a not_false_b differ = (
  λ falsified. not_false_a (All-contains (IsFalse assigned) clause a falsified member_a),
  λ other unit. elim (All-contains (λ x. (x ≡ other) ⊎ IsFalse assigned x) clause a unit.others member_a) [
    | inl same_a ↦ elim (All-contains (λ x. (x ≡ other) ⊎ IsFalse assigned x) clause b unit.others member_b) [
      | inl same_b ↦ differ (cc)
      | inr is_false ↦ not_false_b is_false
    ]
    | inr is_false ↦ not_false_a is_false
  ],
)

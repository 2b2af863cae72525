-- The values of a trail that satisfies the clauses satisfy them.
use Rattle.std.proofs.Common.{◌≡◌, ◌⊎◌, ◌↔◌, ℕ, ◌+◌, ◌*◌, ◌/◌, ◌%◌, ◌<◌, Bool, true, false, not, List, [], ◌∷◌, ◌++◌, length, get_or, Contains, inl, inr, refl, sym, ap, ◌∙◌, subst, arith}
use Rattle.std.proofs.lemmas.Bool.{cases_lt}
use Rattle.std.proofs.lemmas.Bool.Decides.{nat_tests}
use Rattle.std.proofs.lemmas.List.{get_or_append_left, get_or_push}
use Rattle.region_pool.specs.Clauses.{ClauseList}
use Rattle.region_pool.specs.Literals.{negation, literal_value, ClauseHolds, Satisfies}
use Rattle.sat_core.specs.Choice.{IsSatisfied}
use Rattle.sat_core.specs.Search.{AreSatisfied}
use Rattle.sat_core.specs.Steps.{literals_of_steps, EachStep, Fits}
use Rattle.sat_core.specs.Trail.{Steps}
use Rattle.sat_core.specs.Values.{IsValued, ValuesAre}
use Rattle.sat_core.proofs.Negations.{Side, even, odd, side}
use Rattle.sat_core.proofs.PlaceLemmas.{steps_consistent}
use Rattle.sat_core.proofs.StepLemmas.{place_of}

literal_value-even : (assignment : ℕ → Bool) (literal : ℕ) → literal % 2 ≡ 0 → literal_value assignment literal ≡ assignment (literal / 2)
unfolding literal_value
literal_value-even assignment literal h = grind (arith, nat_tests)

literal_value-odd : (assignment : ℕ → Bool) (literal : ℕ) → literal % 2 ≡ 1 → literal_value assignment literal ≡ not (assignment (literal / 2))
unfolding literal_value
literal_value-odd assignment literal h = grind (arith, nat_tests)

bool_cases : (b : Bool) → (b ≡ true) ⊎ (b ≡ false)
bool_cases true = inl refl
bool_cases false = inr refl

module _ (variables : ℕ) (trail : Steps) (values : List Bool) (fit : EachStep (Fits variables) trail.steps) (said : IsValued trail values variables) where
  value_true : (literal : ℕ) → Contains (literals_of_steps trail.steps) literal → literal_value (λ v. get_or values v false) literal ≡ true
  value_true literal holds = by_side (side literal)
    where
      fits : literal < 2 * variables
      fits = let (at, h, e) = place_of trail.steps literal holds in subst (λ (n : ℕ). n < 2 * variables) e (fit at h).0

      by_side : Side literal → literal_value (λ v. get_or values v false) literal ≡ true
      by_side (even h n) =
          let e : literal ≡ 2 * (literal / 2) = omega arith in
          literal_value-even (λ v. get_or values v false) literal h ∙ (said (literal / 2) (omega (arith, fits))).1 (subst (λ (x : ℕ). Contains (literals_of_steps trail.steps) x) e holds)
      by_side (odd h n) =
          let e : 2 * (literal / 2) ≡ negation literal = omega arith in
          let no : get_or values (literal / 2) false ≡ false = elim (bool_cases (get_or values (literal / 2) false)) [
            | inl t ↦ absurd (steps_consistent variables trail.steps literal fit holds (subst (λ (x : ℕ). Contains (literals_of_steps trail.steps) x) e ((said (literal / 2) (omega (arith, fits))).0 t)))
            | inr f ↦ f
          ] in
          literal_value-odd (λ v. get_or values v false) literal h ∙ ap not no

  clause_true : (clause : List ℕ) → IsSatisfied (literals_of_steps trail.steps) clause → ClauseHolds (λ v. get_or values v false) clause
  clause_true clause (literal, (k, h, e), holds) = (k, literal, h, e, value_true literal holds)

pub satisfies : (input : ClauseList) (trail : Steps) (values : List Bool) → AreSatisfied input trail → ValuesAre trail values → Satisfies (λ variable. get_or values variable false) input.clauses
satisfies input trail values satisfied are k d h =
    clause_true input.variables trail values satisfied.fit (subst (λ (n : ℕ). IsValued trail values n) satisfied.variables are.said) (get_or input.clauses k d) (satisfied.clauses k d h)

-- one more value
pub valued_more : (trail : Steps) (values : List Bool) (value : Bool) (count : ℕ) → length values ≡ count → IsValued trail values count → (value ≡ true) ↔ Contains (literals_of_steps trail.steps) (2 * count) → IsValued trail (values ++ value ∷ []) (count + 1)
valued_more trail values value count long said here variable h = elim (cases_lt variable count) [
  | inl k ↦ subst (λ (b : Bool). (b ≡ true) ↔ Contains (literals_of_steps trail.steps) (2 * variable)) (sym (get_or_append_left values (value ∷ []) false variable (omega arith))) (said variable k)
  | inr k ↦
      let e : count ≡ variable = omega arith in
      subst (λ (n : ℕ). (get_or (values ++ value ∷ []) n false ≡ true) ↔ Contains (literals_of_steps trail.steps) (2 * n)) e (subst (λ (b : Bool). (b ≡ true) ↔ Contains (literals_of_steps trail.steps) (2 * count)) (sym (get_or_push values value false count long)) here)
]

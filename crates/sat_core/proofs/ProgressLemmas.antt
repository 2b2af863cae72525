-- How far a search is: a push and a learned line bring it on, and there is an end.
use Rattle.std.proofs.Common.{◌≡◌, ◌≢◌, ◌⊎◌, ℕ, zero, suc, ◌+◌, ◌*◌, ◌/◌, ◌^◌, ◌<◌, ◌≤◌, true, false, eqb, List, [], ◌∷◌, ◌++◌, length, map, get_or, take, inl, inr, sym, ◌∙◌, arith}
use Rattle.std.proofs.lemmas.Bool.Decides.{nat_tests}
use Rattle.std.proofs.lemmas.List.{get_or-map, length-map}
use Rattle.std.specs.List.{list_any}
use Rattle.std.proofs.lemmas.Map.Keys.{IsDistinct-from_apart}
use Rattle.std.proofs.lemmas.Map.Steps.{length-le_from_distinct_below}
use Rattle.std.proofs.lemmas.Map.Views.{Contains-from_any}
use Rattle.region_pool.specs.Literals.{negation}
use Rattle.sat_core.specs.declared.trail.Cause.{Cause}
use Rattle.sat_core.specs.declared.trail.Cause.TheVariants.{Decision, Clause}
use Rattle.sat_core.specs.declared.trail.Step.{Step}
use Rattle.sat_core.specs.Progress.{digit_of, progress}
use Rattle.sat_core.specs.Roles.{IsDecision}
use Rattle.sat_core.specs.Steps.{step_at, EachStep, Fits}
use Rattle.sat_core.proofs.Negations.{Side, even, odd, side}
use Rattle.sat_core.proofs.ResolveLemmas.{step_unique, step_opposed}

three_power : (digits : ℕ) → 3 ^ suc digits ≡ 3 * 3 ^ digits
three_power digits = grind arith

digit_low : (cause : Cause) → 1 ≤ digit_of cause
digit_low Decision = omega arith
digit_low (Clause number) = omega arith

digit_high : (cause : Cause) → digit_of cause ≤ 2
digit_high Decision = omega arith
digit_high (Clause number) = omega arith

positive : (digits : ℕ) → 0 < 3 ^ digits
positive zero = omega arith
positive (suc digits) = omega (arith, positive digits, three_power digits)

scaled : (a b n : ℕ) → a ≤ b → a * n ≤ b * n
scaled a b n h = grind arith

pub progress-bound : (digits : ℕ) (steps : List Step) → progress digits steps < 3 ^ digits
progress-bound digits [] = positive digits
progress-bound zero (step ∷ steps) = omega arith
progress-bound (suc digits) (step ∷ steps) =
    omega (arith, progress-bound digits steps, three_power digits, scaled (digit_of step.cause) 2 (3 ^ digits) (digit_high step.cause))

pub progress-push : (digits : ℕ) (steps : List Step) (step : Step) → length steps < digits → progress digits steps < progress digits (steps ++ step ∷ [])
progress-push zero steps step h = absurd (omega arith)
progress-push (suc digits) [] step h = omega (arith, positive digits, scaled 1 (digit_of step.cause) (3 ^ digits) (digit_low step.cause))
progress-push (suc digits) (first ∷ steps) step h = omega (arith, progress-push digits steps step (omega arith))

-- a step that is forced in the place of a decision outweighs all that came after
pub progress-cut : (digits : ℕ) (steps : List Step) (cut number literal : ℕ) → cut < length steps → length steps ≤ digits → IsDecision (step_at steps cut).cause → progress digits steps < progress digits (take cut steps ++ (record { literal = literal; cause = Clause number }) ∷ [])
progress-cut zero steps cut number literal h k d = absurd (omega arith)
progress-cut (suc digits) [] cut number literal h k d = absurd (omega arith)
progress-cut (suc digits) (first ∷ steps) zero number literal h k d = weighs first.cause d
  where
    weighs : (cause : Cause) → IsDecision cause → digit_of cause * 3 ^ digits + progress digits steps < 2 * 3 ^ digits + 0
    weighs Decision d = omega (arith, progress-bound digits steps)
    weighs (Clause n) d = absurd d
progress-cut (suc digits) (first ∷ steps) (suc cut) number literal h k d = omega (arith, progress-cut digits steps cut number literal (omega arith) (omega arith) d)

variable_of : Step → ℕ
variable_of step = step.literal / 2

same_variable : (a b : ℕ) → a / 2 ≡ b / 2 → (a ≡ b) ⊎ (a ≡ negation b)
same_variable a b e = by_sides (side a) (side b)
  where
    by_sides : Side a → Side b → (a ≡ b) ⊎ (a ≡ negation b)
    by_sides (even h n) (even k m) = inl (omega arith)
    by_sides (even h n) (odd k m) = inr (omega arith)
    by_sides (odd h n) (even k m) = inr (omega arith)
    by_sides (odd h n) (odd k m) = inl (omega arith)

-- there are no more steps than variables
pub steps_few : (variables : ℕ) (steps : List Step) → EachStep (Fits variables) steps → length steps ≤ variables
unfolding variable_of
steps_few variables steps fit =
    let count : length (map variable_of steps) ≡ length steps = length-map steps variable_of in
    let at : (i d : ℕ) → i < length steps → get_or (map variable_of steps) i d ≡ (step_at steps i).literal / 2 = λ i d h. get_or-map variable_of steps i _ d h in
    let apart : (i j d : ℕ) → i < j → j < length (map variable_of steps) → eqb (get_or (map variable_of steps) i d) (get_or (map variable_of steps) j d) ≡ false = λ i j d h k.
    let hi : i < length steps = omega arith in
    let hj : j < length steps = omega arith in
    let ne : get_or (map variable_of steps) i d ≢ get_or (map variable_of steps) j d = λ e. elim (same_variable (step_at steps i).literal (step_at steps j).literal (sym (at i d hi) ∙ e ∙ at j d hj)) [
      | inl f ↦ let same : i ≡ j = step_unique variables steps fit i j hi hj f in omega arith
      | inr f ↦ step_opposed variables steps fit i j hi hj f
    ] in differ _ _ ne in
    let below : (q : ℕ) → list_any (eqb q) (map variable_of steps) ≡ true → q < variables = λ q h.
    let (k, l, e) = Contains-from_any same_number q (map variable_of steps) h in
    let j : k < length steps = omega arith in
    let f : q ≡ (step_at steps k).literal / 2 = sym e ∙ at k q j in
    let g = (fit k j).0 in
    omega (arith, g) in
    rw (← count) (length-le_from_distinct_below (map variable_of steps) variables (IsDistinct-from_apart eqb (map variable_of steps) apart) below)
  where
    differ : (a b : ℕ) → a ≢ b → eqb a b ≡ false
    differ a b n = grind (arith, nat_tests)

    same_number : (a b : ℕ) → eqb a b ≡ true → a ≡ b
    same_number a b e = grind (arith, nat_tests)

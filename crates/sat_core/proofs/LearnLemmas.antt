-- What the learned line is on the steps that remain.
use Rattle.std.proofs.Common.{◌≡◌, ◌≢◌, ◌⊎◌, ℕ, zero, suc, ◌<◌, ◌≤◌, List, [], ◌∷◌, length, get_or, take, Contains, inl, inr, sym, ap, ◌∙◌, subst, arith}
use Rattle.std.proofs.lemmas.Bool.{cases_eq}
use Rattle.std.proofs.lemmas.List.Elements.{All-contains, Contains-get_or}
use Rattle.region_pool.specs.Literals.{negation}
use Rattle.region_pool.specs.Refutation.{IsFalse, IsOpen, IsUnit, IsNew}
use Rattle.sat_core.specs.declared.roles.Role.{Role}
use Rattle.sat_core.specs.declared.trail.Step.{Step}
use Rattle.sat_core.specs.Learned.{gather, literals_of_role, IsAsserting}
use Rattle.sat_core.specs.Quiet.{IsQuiet, IsClosed}
use Rattle.sat_core.specs.Roles.{IsDecision}
use Rattle.sat_core.specs.Steps.{literals_of_steps, step_at, EachStep, Fits}
use Rattle.sat_core.proofs.FollowLemmas.{kept_from, kept_has}
use Rattle.sat_core.proofs.Negations.{negation-negation}
use Rattle.sat_core.proofs.ResolveLemmas.{step_unique, step_opposed}
use Rattle.sat_core.proofs.QuietLemmas.{quiet_by_two}
use Rattle.sat_core.proofs.StepLemmas.{holds_before, place_before}

pub contains_cases : (xs : List ℕ) (x : ℕ) → Contains xs x ⊎ (¬ Contains xs x)
contains_cases [] x = inr (λ (k, h, e). omega arith)
contains_cases (y ∷ xs) x = elim (cases_eq y x) [
  | inl e ↦ inl (zero, omega arith, e)
  | inr n ↦ elim (contains_cases xs x) [
    | inl (k, h, e) ↦ inl (suc k, omega arith, e)
    | inr none ↦ inr (not_here y xs x n none)
  ]
]
  where
    not_here : (y : ℕ) (xs : List ℕ) (x : ℕ) → y ≢ x → (¬ Contains xs x) → ¬ Contains (y ∷ xs) x
    not_here y xs x n none (zero, h, e) = n e
    not_here y xs x n none (suc k, h, e) = none (k, omega arith, e)

-- a clause that forces a literal has no part that is quiet
pub IsNew-unit : (clauses : List (List ℕ)) (assigned line : List ℕ) (literal : ℕ) → IsClosed clauses assigned → IsUnit assigned line literal → IsNew clauses line
IsNew-unit clauses assigned line literal closed unit k d h part =
    let clause : List ℕ = get_or clauses k d in
    let quiet : IsQuiet assigned clause = closed k d h in
    let others : (x : ℕ) → Contains clause x → (x ≡ literal) ⊎ IsFalse assigned x = λ x c. All-contains (λ y. (y ≡ literal) ⊎ IsFalse assigned y) line x unit.others (All-contains (Contains line) clause x part c) in
    elim (contains_cases clause literal) [
      | inl c ↦ quiet.1 literal (record { member = c; free = unit.free; others = λ j e l. others (get_or clause j e) (Contains-get_or clause j e l) })
      | inr none ↦ quiet.0 (λ j e l. elim (others (get_or clause j e) (Contains-get_or clause j e l)) [
        | inl f ↦ absurd (none (subst (λ (n : ℕ). Contains clause n) f (Contains-get_or clause j e l)))
        | inr f ↦ f
      ])
    ]

module _ (variables : ℕ) (steps : List Step) (roles : List Role) (fit : EachStep (Fits variables) steps) (long : length roles ≡ length steps) where
  -- before its step, the negation of a literal is open
  pub open_later : (limit at : ℕ) → limit ≤ at → at < length steps → IsOpen (literals_of_steps (take limit steps)) (negation (step_at steps at).literal)
  open_later limit at h k = (
    λ c. let (j, l, e) = place_before steps limit (negation (step_at steps at).literal) (omega arith) c in step_opposed variables steps fit j at (omega arith) k e,
    λ c.
        let (j, l, e) = place_before steps limit (negation (negation (step_at steps at).literal)) (omega arith) c in
        let same : j ≡ at = step_unique variables steps fit j at (omega arith) k (e ∙ negation-negation (step_at steps at).literal) in
        absurd (omega arith),
  )

  module _ (asserted cut : ℕ) (asserting : IsAsserting steps roles asserted cut) where
    pub line_unit : IsUnit (literals_of_steps (take cut steps)) (gather literals_of_role steps roles) (negation (step_at steps asserted).literal)
    line_unit = record {
      member = kept_has steps roles asserted asserting.within long asserting.kept;
      free = open_later cut asserted asserting.after asserting.within;
      others = λ k d h.
          let x : ℕ = get_or (gather literals_of_role steps roles) k d in
          let (at, hat, role, e) = kept_from steps roles x (Contains-get_or (gather literals_of_role steps roles) k d h) in
          elim (asserting.others at role) [
            | inl f ↦ inl (e ∙ ap (λ (n : ℕ). negation (step_at steps n).literal) f)
            | inr f ↦ inr (subst (λ (n : ℕ). Contains (literals_of_steps (take cut steps)) n) (sym (negation-negation (step_at steps at).literal) ∙ ap negation (sym e)) (holds_before steps at cut f (omega (arith, asserting.after, asserting.within))))
          ];
    }

    pub line_quiet : (at : ℕ) → at < cut → IsDecision (step_at steps at).cause → IsQuiet (literals_of_steps (take at steps)) (gather literals_of_role steps roles)
    line_quiet at h decided =
        let (top, above, below, role) = asserting.holds at h decided in
        let within : top < length steps = omega (arith, asserting.after, asserting.within) in
        let apart : negation (step_at steps asserted).literal ≢ negation (step_at steps top).literal = λ e.
        let f : (step_at steps asserted).literal ≡ (step_at steps top).literal = sym (negation-negation (step_at steps asserted).literal) ∙ ap negation e ∙ negation-negation (step_at steps top).literal in
        let same : asserted ≡ top = step_unique variables steps fit asserted top asserting.within within f in
        omega (arith, asserting.after) in
        quiet_by_two (literals_of_steps (take at steps)) (gather literals_of_role steps roles) (negation (step_at steps asserted).literal) (negation (step_at steps top).literal)
        (kept_has steps roles asserted asserting.within long asserting.kept) (kept_has steps roles top within long role)
        (open_later at asserted (omega (arith, asserting.after)) asserting.within) (open_later at top above within) apart

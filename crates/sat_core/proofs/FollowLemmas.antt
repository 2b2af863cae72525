-- The line that is learned follows by its hints.
use Rattle.std.proofs.Common.{◌≡◌, ◌≢◌, ◌⊎◌, ℕ, zero, suc, ◌+◌, ◌<◌, ◌≤◌, List, [], ◌∷◌, ◌++◌, length, get_or, drop, All, Contains, inl, inr, refl, sym, ap, ◌∙◌, subst, arith}
use Rattle.std.proofs.lemmas.Bool.{cases_eq}
use Rattle.std.proofs.lemmas.List.{drop_all, get_or-map, length-map}
use Rattle.std.proofs.lemmas.List.Elements.{All-push, Contains-get_or}
use Rattle.region_pool.specs.Blocks.{block_at}
use Rattle.region_pool.specs.Clauses.{IsLiteral}
use Rattle.region_pool.specs.Literals.{negation}
use Rattle.region_pool.specs.Refutation.{IsFalse, IsFalsified, IsUnit, IsConsistent, Reaches, LineFollows, negations}
use Rattle.sat_core.specs.declared.roles.Role.{Role}
use Rattle.sat_core.specs.declared.roles.Role.TheVariants.{Unused, Kept, Resolved}
use Rattle.sat_core.specs.declared.trail.Cause.{Cause}
use Rattle.sat_core.specs.declared.trail.Cause.TheVariants.{Decision, Clause}
use Rattle.sat_core.specs.declared.trail.Step.{Step}
use Rattle.sat_core.specs.Learned.{gather, literals_of_role, hints_of_role, hints_of_cause, line_of}
use Rattle.sat_core.specs.Roles.{role_at, IsBlamed, IsExplainedBy, Derives}
use Rattle.sat_core.specs.Steps.{step_at, EachStep, Fits, IsCaused}
use Rattle.sat_core.proofs.GatherLemmas.{gather-drop, gather-from, gather-has}
use Rattle.sat_core.proofs.Negations.{negation-negation, negation-fits}
use Rattle.sat_core.proofs.ResolveLemmas.{step_unique, step_opposed, cause_clause}

-- each role
pub data Cases (role : Role) : Type 0 where
  unused : role ≡ Unused → Cases role
  kept : role ≡ Kept → Cases role
  resolved : role ≡ Resolved → Cases role

pub role_cases : (role : Role) → Cases role
role_cases Unused = unused refl
role_cases Kept = kept refl
role_cases Resolved = resolved refl

-- a literal of the line is the negation of a kept step's
pub kept_from : (steps : List Step) (roles : List Role) (x : ℕ) → Contains (gather literals_of_role steps roles) x → (at : ℕ) × (at < length steps) × (role_at roles at ≡ Kept) × (x ≡ negation (step_at steps at).literal)
kept_from steps roles x c =
    let (at, h, k, m) = gather-from literals_of_role steps roles x c in
    from_role (role_at roles at) at refl h k m
  where
    single : (a b : ℕ) → Contains (a ∷ []) b → b ≡ a
    single a b (zero, h, e) = sym e
    single a b (suc k, h, e) = absurd (omega arith)

    from_role : (role : Role) (at : ℕ) → role_at roles at ≡ role → at < length steps → at < length roles → Contains (literals_of_role role (step_at steps at)) x → (at : ℕ) × (at < length steps) × (role_at roles at ≡ Kept) × (x ≡ negation (step_at steps at).literal)
    from_role Unused at e h k m = absurd (omega (arith, m.1))
    from_role Kept at e h k m = (at, h, e, single (negation (step_at steps at).literal) x m)
    from_role Resolved at e h k m = absurd (omega (arith, m.1))

pub kept_has : (steps : List Step) (roles : List Role) (at : ℕ) → at < length steps → length roles ≡ length steps → role_at roles at ≡ Kept → Contains (gather literals_of_role steps roles) (negation (step_at steps at).literal)
kept_has steps roles at h e k =
    gather-has literals_of_role steps roles at (negation (step_at steps at).literal) h (omega arith) (subst (λ (r : Role). Contains (literals_of_role r (step_at steps at)) (negation (step_at steps at).literal)) (sym k) (zero, omega arith, refl))

-- the step's literal is assumed, or made true by a hint before this place
abbrev IsAssumed : List Role → ℕ → ℕ → Type 0
IsAssumed roles limit at = (role_at roles at ≡ Kept) ⊎ ((at < limit) × (role_at roles at ≡ Resolved))

assumed_by_role : (roles : List Role) (limit at : ℕ) → at < limit → role_at roles at ≢ Unused → IsAssumed roles limit at
assumed_by_role roles limit at h used = elim (role_cases (role_at roles at)) [ unused e ↦ absurd (used e) | kept e ↦ inl e | resolved e ↦ inr (h, e) ]

module _ (variables : ℕ) (clauses : List (List ℕ)) (steps : List Step) (roles : List Role) (conflict : ℕ) (fit : EachStep (Fits variables) steps) (caused : EachStep (IsCaused clauses) steps) (derives : Derives clauses (block_at clauses conflict) steps roles) where
  -- the true literals are those of the steps that are assumed
  abbrev Covers : List ℕ → ℕ → Type 0
  Covers assigned limit = (at : ℕ) → at < length steps → IsAssumed roles limit at → Contains assigned (step_at steps at).literal

  abbrev Only : List ℕ → ℕ → Type 0
  Only assigned limit = (x : ℕ) → Contains assigned x → (at : ℕ) × (at < length steps) × IsAssumed roles limit at × ((step_at steps at).literal ≡ x)

  blamed_false : (assigned : List ℕ) (limit : ℕ) → limit ≤ length steps → Covers assigned limit → (x : ℕ) → IsBlamed steps roles limit x → IsFalse assigned x
  blamed_false assigned limit within covers x (at, h, e, used) =
      subst (λ (n : ℕ). Contains assigned n) e (covers at (omega arith) (assumed_by_role roles limit at h used))

  falsified_end : (assigned : List ℕ) → Covers assigned (length steps) → IsFalsified assigned (block_at clauses conflict)
  falsified_end assigned covers k d h = blamed_false assigned (length steps) (omega arith) covers (get_or (block_at clauses conflict) k d) (derives.falsified k d h)

  explained_others : (assigned : List ℕ) (at number : ℕ) → at ≤ length steps → Covers assigned at → IsExplainedBy clauses steps roles at (Clause number) → All (λ other. (other ≡ (step_at steps at).literal) ⊎ IsFalse assigned other) (block_at clauses number)
  explained_others assigned at number within covers explained k d h = elim (explained k d h) [
    | inl e ↦ inl e
    | inr b ↦ inr (blamed_false assigned at within covers (get_or (block_at clauses number) k d) b)
  ]

  unit_here : (assigned : List ℕ) (at number : ℕ) → at < length steps → role_at roles at ≡ Resolved → (step_at steps at).cause ≡ Clause number → Covers assigned at → Only assigned at → IsUnit assigned (block_at clauses number) (step_at steps at).literal
  unit_here assigned at number h role cause covers only =
      let by = cause_clause clauses steps at number caused h cause in
      let explained : IsExplainedBy clauses steps roles at (Clause number) = subst (λ (c : Cause). IsExplainedBy clauses steps roles at c) cause (derives.resolved at h role) in
      record {
        member = by.1.member;
        free = (
          λ c.
              let (j, hj, assumed, e) = only (step_at steps at).literal c in
              let same : j ≡ at = step_unique variables steps fit j at hj h e in
              elim assumed [
                | inl k ↦ let f : Kept ≡ Resolved = sym k ∙ ap (role_at roles) same ∙ role in absurd (cc)
                | inr (l, k) ↦ absurd (omega arith)
              ],
          λ c. let (j, hj, assumed, e) = only (negation (step_at steps at).literal) c in step_opposed variables steps fit j at hj h e,
        );
        others = explained_others assigned at number (omega arith) covers explained;
      }

  covers_more : (assigned : List ℕ) (at : ℕ) → Covers assigned at → Covers ((step_at steps at).literal ∷ assigned) (at + 1)
  covers_more assigned at covers j h assumed = elim (cases_eq j at) [
    | inl e ↦ (zero, omega arith, ap (λ (n : ℕ). (step_at steps n).literal) (sym e))
    | inr n ↦
        let before : IsAssumed roles at j = elim assumed [ inl k ↦ inl k | inr (l, k) ↦ inr (omega arith, k) ] in
        let (i, hi, e) = covers j h before in
        (suc i, omega arith, e)
  ]

  only_more : (assigned : List ℕ) (at : ℕ) → at < length steps → role_at roles at ≡ Resolved → Only assigned at → Only ((step_at steps at).literal ∷ assigned) (at + 1)
  only_more assigned at h role only x (zero, l, e) = (at, h, inr (omega arith, role), e)
  only_more assigned at h role only x (suc k, l, e) =
      let (j, hj, assumed, f) = only x (k, omega arith, e) in
      (j, hj, elim assumed [ inl a ↦ inl a | inr (b, a) ↦ inr (omega arith, a) ], f)

  covers_same : (assigned : List ℕ) (at : ℕ) → role_at roles at ≢ Resolved → Covers assigned at → Covers assigned (at + 1)
  covers_same assigned at role covers j h assumed = covers j h (elim assumed [
    | inl k ↦ inl k
    | inr (l, k) ↦ elim (cases_eq j at) [ inl e ↦ absurd (role (ap (role_at roles) (sym e) ∙ k)) | inr n ↦ inr (omega arith, k) ]
  ])

  only_same : (assigned : List ℕ) (at : ℕ) → Only assigned at → Only assigned (at + 1)
  only_same assigned at only x c =
      let (j, hj, assumed, f) = only x c in
      (j, hj, elim assumed [ inl a ↦ inl a | inr (b, a) ↦ inr (omega arith, a) ], f)

  abbrev ReachesFrom : List ℕ → ℕ → Type 0
  ReachesFrom assigned at = Reaches clauses assigned (gather hints_of_role (drop at steps) (drop at roles) ++ conflict ∷ [])

  reaches_cause : (at : ℕ) → at < length steps → ((assigned : List ℕ) → Covers assigned (at + 1) → Only assigned (at + 1) → ReachesFrom assigned (at + 1)) → (assigned : List ℕ) → Covers assigned at → Only assigned at → role_at roles at ≡ Resolved → (cause : Cause) → (step_at steps at).cause ≡ cause → Reaches clauses assigned ((hints_of_cause cause ++ gather hints_of_role (drop (at + 1) steps) (drop (at + 1) roles)) ++ conflict ∷ [])
  reaches_cause at h next assigned covers only role Decision c = absurd (subst (λ (x : Cause). IsExplainedBy clauses steps roles at x) c (derives.resolved at h role))
  reaches_cause at h next assigned covers only role (Clause number) c =
      inr ((step_at steps at).literal, unit_here assigned at number h role c covers only, next ((step_at steps at).literal ∷ assigned) (covers_more assigned at covers) (only_more assigned at h role only))

  reaches_role : (at : ℕ) → at < length steps → ((assigned : List ℕ) → Covers assigned (at + 1) → Only assigned (at + 1) → ReachesFrom assigned (at + 1)) → (assigned : List ℕ) → Covers assigned at → Only assigned at → (role : Role) → role_at roles at ≡ role → Reaches clauses assigned ((hints_of_role role (step_at steps at) ++ gather hints_of_role (drop (at + 1) steps) (drop (at + 1) roles)) ++ conflict ∷ [])
  reaches_role at h next assigned covers only Unused f = next assigned (covers_same assigned at (λ g. let z : Unused ≡ Resolved = sym f ∙ g in absurd (cc)) covers) (only_same assigned at only)
  reaches_role at h next assigned covers only Kept f = next assigned (covers_same assigned at (λ g. let z : Kept ≡ Resolved = sym f ∙ g in absurd (cc)) covers) (only_same assigned at only)
  reaches_role at h next assigned covers only Resolved f = reaches_cause at h next assigned covers only f (step_at steps at).cause refl

  -- from each place on, the hints that are left reach the conflict
  reaches_from : (left at : ℕ) → at + left ≡ length steps → (assigned : List ℕ) → Covers assigned at → Only assigned at → ReachesFrom assigned at
  reaches_from zero at e assigned covers only =
      let all : drop at steps ≡ [] = drop_all at steps (omega arith) in
      let same : at ≡ length steps = omega arith in
      subst (λ (s : List Step). Reaches clauses assigned (gather hints_of_role s (drop at roles) ++ conflict ∷ [])) (sym all) (inl (falsified_end assigned (subst (λ (n : ℕ). Covers assigned n) same covers)))
  reaches_from (suc left) at e assigned covers only =
      let h : at < length steps = omega arith in
      subst (λ (s : List ℕ). Reaches clauses assigned (s ++ conflict ∷ [])) (sym (gather-drop hints_of_role steps roles at (sym derives.long) h)) (reaches_role at h (reaches_from left (at + 1) (omega arith)) assigned covers only (role_at roles at) refl)

  abbrev kept_line : List ℕ
  kept_line = gather literals_of_role steps roles

  negation_from : (x : ℕ) → Contains (negations kept_line) x → (at : ℕ) × (at < length steps) × (role_at roles at ≡ Kept) × ((step_at steps at).literal ≡ x)
  negation_from x (k, h, e) =
      let j : k < length kept_line = rw length-map at h in
      let (at, hat, role, f) = kept_from steps roles (get_or kept_line k 0) (Contains-get_or kept_line k 0 j) in
      (at, hat, role, sym (negation-negation (step_at steps at).literal) ∙ ap negation (sym f) ∙ sym (get_or-map negation kept_line k 0 x j) ∙ e)

  negation_has : (at : ℕ) → at < length steps → role_at roles at ≡ Kept → Contains (negations kept_line) (step_at steps at).literal
  negation_has at h role =
      let (k, l, e) = kept_has steps roles at h derives.long role in
      let j : k < length (negations kept_line) = rw length-map l in
      let get : get_or (negations kept_line) k (step_at steps at).literal ≡ negation (get_or kept_line k (negation (step_at steps at).literal)) = get_or-map negation kept_line k (negation (step_at steps at).literal) (step_at steps at).literal l in
      (k, j, get ∙ ap negation e ∙ negation-negation (step_at steps at).literal)

  pub reaches : Reaches clauses (negations kept_line) (line_of steps roles conflict).hints
  reaches =
      reaches_from (length steps) zero (omega arith) (negations kept_line)
      (λ at h assumed. elim assumed [ inl k ↦ negation_has at h k | inr (l, k) ↦ absurd (omega arith) ])
      (λ x c. let (at, h, role, e) = negation_from x c in (at, h, inl role, e))

  literals_fit : (x : ℕ) → Contains kept_line x → IsLiteral variables x
  literals_fit x c =
      let (at, h, role, e) = kept_from steps roles x c in
      subst (λ (n : ℕ). IsLiteral variables n) (sym e) (negation-fits variables (step_at steps at).literal (fit at h).0)

  consistent : IsConsistent kept_line
  consistent k d h there =
      let (i, hi, ri, ei) = kept_from steps roles (get_or kept_line k d) (Contains-get_or kept_line k d h) in
      let (j, hj, rj, ej) = kept_from steps roles (negation (get_or kept_line k d)) there in
      let e : (step_at steps i).literal ≡ negation (step_at steps j).literal = sym (negation-negation (step_at steps i).literal) ∙ ap negation (sym ei) ∙ ej in
      step_opposed variables steps fit i j hi hj e

  hint_from : (x : ℕ) → Contains (gather hints_of_role steps roles) x → x < length clauses
  hint_from x c = let (at, h, k, m) = gather-from hints_of_role steps roles x c in from_role (role_at roles at) at h m
    where
      from_cause : (cause : Cause) (at : ℕ) → (step_at steps at).cause ≡ cause → at < length steps → Contains (hints_of_cause cause) x → x < length clauses
      from_cause Decision at e h m = absurd (omega (arith, m.1))
      from_cause (Clause number) at e h (zero, l, f) = let by = cause_clause clauses steps at number caused h e in let g : number ≡ x = f in omega (arith, by.0)
      from_cause (Clause number) at e h (suc k, l, f) = absurd (omega arith)

      from_role : (role : Role) (at : ℕ) → at < length steps → Contains (hints_of_role role (step_at steps at)) x → x < length clauses
      from_role Unused at h m = absurd (omega (arith, m.1))
      from_role Kept at h m = absurd (omega (arith, m.1))
      from_role Resolved at h m = from_cause (step_at steps at).cause at refl h m

  pub line_follows : conflict < length clauses → LineFollows variables clauses (line_of steps roles conflict)
  line_follows within = record {
    literals = λ k d h. literals_fit (get_or kept_line k d) (Contains-get_or kept_line k d h);
    consistent = consistent;
    hints = All-push (λ hint. hint < length clauses) (gather hints_of_role steps roles) conflict (λ k d h. hint_from (get_or (gather hints_of_role steps roles) k d) (Contains-get_or (gather hints_of_role steps roles) k d h)) within;
    conflict = reaches;
  }

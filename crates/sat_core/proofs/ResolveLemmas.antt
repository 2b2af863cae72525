-- A step that is resolved, and what the steps with a role derive.
use Rattle.std.proofs.Common.{◌≡◌, ◌≢◌, ◌⊎◌, ℕ, ◌+◌, ◌<◌, List, length, get_or, set, take, Contains, inl, inr, sym, ap, ◌∙◌, subst, arith}
use Rattle.std.proofs.lemmas.Bool.{cases_lt, cases_eq}
use Rattle.std.proofs.lemmas.List.{length-set, get_or-set_same, get_or-set_other}
use Rattle.std.proofs.lemmas.List.Elements.{All-contains, Contains-get_or}
use Rattle.region_pool.specs.Blocks.{block_at}
use Rattle.region_pool.specs.Literals.{negation}
use Rattle.region_pool.specs.Refutation.{IsFalse, IsUnit}
use Rattle.sat_core.specs.declared.roles.Role.{Role}
use Rattle.sat_core.specs.declared.roles.Role.TheVariants.{Unused, Kept, Resolved}
use Rattle.sat_core.specs.declared.trail.Cause.{Cause}
use Rattle.sat_core.specs.declared.trail.Cause.TheVariants.{Decision, Clause}
use Rattle.sat_core.specs.declared.trail.Step.{Step}
use Rattle.sat_core.specs.Roles.{role_at, Falsifies, Blames, IsBlamed, IsExplainedBy, IsExplained, Derives, Resolves, Keeps, NoneKept, SameFrom}
use Rattle.sat_core.specs.Steps.{literals_of_steps, step_at, EachStep, Fits, IsCaused, CauseHolds}
use Rattle.sat_core.proofs.StepLemmas.{holds_at, holds_before, place_before}
use Rattle.sat_core.proofs.PlaceLemmas.{steps_consistent}

-- a literal is that of one step alone
pub step_unique : (variables : ℕ) (steps : List Step) → EachStep (Fits variables) steps → (i j : ℕ) → i < length steps → j < length steps → (step_at steps i).literal ≡ (step_at steps j).literal → i ≡ j
step_unique variables steps fit i j hi hj e = elim (cases_lt i j) [
  | inl k ↦ absurd ((fit j hj).1.0 (subst (λ (n : ℕ). Contains (literals_of_steps (take j steps)) n) e (holds_before steps i j k (omega arith))))
  | inr k ↦ elim (cases_eq i j) [
    | inl f ↦ f
    | inr n ↦ absurd ((fit i hi).1.0 (subst (λ (n : ℕ). Contains (literals_of_steps (take i steps)) n) (sym e) (holds_before steps j i (omega arith) (omega arith))))
  ]
]

-- no step has the negation of another's literal
pub step_opposed : (variables : ℕ) (steps : List Step) → EachStep (Fits variables) steps → (i j : ℕ) → i < length steps → j < length steps → (step_at steps i).literal ≢ negation (step_at steps j).literal
step_opposed variables steps fit i j hi hj e =
    steps_consistent variables steps (step_at steps j).literal fit (holds_at steps j hj) (subst (λ (n : ℕ). Contains (literals_of_steps steps) n) e (holds_at steps i hi))

-- what forced a step
pub cause_clause : (clauses : List (List ℕ)) (steps : List Step) (at number : ℕ) → EachStep (IsCaused clauses) steps → at < length steps → (step_at steps at).cause ≡ Clause number → (number < length clauses) × IsUnit (literals_of_steps (take at steps)) (block_at clauses number) (step_at steps at).literal
cause_clause clauses steps at number caused h e =
    subst (λ (x : Cause). CauseHolds clauses (literals_of_steps (take at steps)) (step_at steps at).literal x) e (caused at h)

module _ (variables : ℕ) (clauses : List (List ℕ)) (steps : List Step) (fit : EachStep (Fits variables) steps) (at number : ℕ) (within : at < length steps) (unit : IsUnit (literals_of_steps (take at steps)) (block_at clauses number) (step_at steps at).literal) where
  -- the steps that make the other literals of the clause false are earlier
  falsified_before : (other : ℕ) → other < length steps → Falsifies steps (block_at clauses number) other → other < at
  falsified_before other h (literal, member, e) =
      elim (All-contains (λ x. (x ≡ (step_at steps at).literal) ⊎ IsFalse (literals_of_steps (take at steps)) x) (block_at clauses number) literal unit.others member) [
        | inl f ↦ absurd (step_opposed variables steps fit other at h within (e ∙ ap negation f))
        | inr f ↦
            let p = place_before steps at (negation literal) (omega arith) f in
            let k : p.0 < length steps = omega (arith, p.1) in
            let same : other ≡ p.0 = step_unique variables steps fit other p.0 h k (e ∙ sym p.2) in
            omega (arith, p.1)
      ]

  explained_by : (roles : List Role) → ((other : ℕ) → other < length steps → Falsifies steps (block_at clauses number) other → role_at roles other ≢ Unused) → IsExplainedBy clauses steps roles at (Clause number)
  explained_by roles covers k d h =
      elim (unit.others k d h) [
        | inl e ↦ inl e
        | inr f ↦
            let p = place_before steps at (negation (get_or (block_at clauses number) k d)) (omega arith) f in
            let m : Contains (block_at clauses number) (get_or (block_at clauses number) k d) = Contains-get_or (block_at clauses number) k d h in
            let j : p.0 < length steps = omega (arith, p.1) in
            inr (p.0, p.1, p.2, covers p.0 j (get_or (block_at clauses number) k d, m, p.2))
      ]

  pub Resolves-blames : (roles new : List Role) → length roles ≡ length steps → (step_at steps at).cause ≡ Clause number → Blames steps (block_at clauses number) (set roles at Resolved) new → Resolves clauses steps at roles new
  Resolves-blames roles new long cause blames =
      let same : role_at (set roles at Resolved) at ≡ Resolved = get_or-set_same roles at Resolved Unused (omega arith) in
      record {
        long = blames.long ∙ length-set roles at Resolved;
        here = elim (blames.marks at) [
          | inl e ↦ e ∙ same
          | inr (a, b, c, d) ↦ let f : Resolved ≡ Unused = sym same ∙ b in absurd (cc)
        ];
        explained = subst (λ (x : Cause). IsExplainedBy clauses steps new at x) (sym cause) (explained_by new blames.covers);
        others = λ other n.
            let k = get_or-set_other roles at other Resolved Unused n in
            elim (blames.marks other) [
              | inl e ↦ inl (e ∙ k)
              | inr (a, b, c, d) ↦ inr (falsified_before other a d, sym k ∙ b, c)
            ];
      }

-- a step that has a role keeps having one
pub resolved_used : (clauses : List (List ℕ)) (steps : List Step) (at : ℕ) (old new : List Role) → Resolves clauses steps at old new → (other : ℕ) → role_at old other ≢ Unused → role_at new other ≢ Unused
resolved_used clauses steps at old new resolves other used e = elim (cases_eq other at) [
  | inl f ↦ let g : Resolved ≡ Unused = sym resolves.here ∙ ap (role_at new) (sym f) ∙ e in absurd (cc)
  | inr n ↦ elim (resolves.others other n) [ inl f ↦ used (sym f ∙ e) | inr (a, b, c) ↦ used b ]
]

blamed_still : (steps : List Step) (old new : List Role) (limit literal : ℕ) → ((other : ℕ) → role_at old other ≢ Unused → role_at new other ≢ Unused) → IsBlamed steps old limit literal → IsBlamed steps new limit literal
blamed_still steps old new limit literal used (at, h, e, u) = (at, h, e, used at u)

explained_still : (clauses : List (List ℕ)) (steps : List Step) (old new : List Role) (at : ℕ) (cause : Cause) → ((other : ℕ) → role_at old other ≢ Unused → role_at new other ≢ Unused) → IsExplainedBy clauses steps old at cause → IsExplainedBy clauses steps new at cause
explained_still clauses steps old new at Decision used h = h
explained_still clauses steps old new at (Clause number) used h = λ k d l. elim (h k d l) [ inl e ↦ inl e | inr b ↦ inr (blamed_still steps old new at (get_or (block_at clauses number) k d) used b) ]

pub Derives-resolve : (clauses : List (List ℕ)) (conflict : List ℕ) (steps : List Step) (at : ℕ) (old new : List Role) → Derives clauses conflict steps old → Resolves clauses steps at old new → Derives clauses conflict steps new
Derives-resolve clauses conflict steps at old new derives resolves =
    let used = resolved_used clauses steps at old new resolves in
    record {
      long = resolves.long ∙ derives.long;
      falsified = λ k d l. blamed_still steps old new (length steps) (get_or conflict k d) used (derives.falsified k d l);
      resolved = λ other h e. elim (cases_eq other at) [
        | inl f ↦ subst (λ (n : ℕ). IsExplained clauses steps new n) (sym f) resolves.explained
        | inr n ↦ elim (resolves.others other n) [
          | inl f ↦ explained_still clauses steps old new other (step_at steps other).cause used (derives.resolved other h (sym f ∙ e))
          | inr (a, b, c) ↦ let g : Kept ≡ Resolved = sym c ∙ e in absurd (cc)
        ]
      ];
    }

pub Keeps-resolve : (clauses : List (List ℕ)) (steps : List Step) (at : ℕ) (old new : List Role) → Resolves clauses steps at old new → Keeps clauses steps old new
Keeps-resolve clauses steps at old new resolves = record {
  long = resolves.long;
  derives = λ conflict h. Derives-resolve clauses conflict steps at old new h resolves;
}

pub Keeps-then : (clauses : List (List ℕ)) (steps : List Step) (a b c : List Role) → Keeps clauses steps a b → Keeps clauses steps b c → Keeps clauses steps a c
Keeps-then clauses steps a b c first second = record {
  long = second.long ∙ first.long;
  derives = λ conflict h. second.derives conflict (first.derives conflict h);
}

-- one more place is kept no more
pub none_kept_more : (old new : List Role) (at high : ℕ) → NoneKept old (at + 1) high → role_at new at ≢ Kept → SameFrom (at + 1) old new → NoneKept new at high
none_kept_more old new at high none here later k low below = elim (cases_eq k at) [
  | inl e ↦ subst (λ (n : ℕ). role_at new n ≢ Kept) (sym e) here
  | inr n ↦ λ f. none k (omega arith) below (sym (later k (omega arith)) ∙ f)
]

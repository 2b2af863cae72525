-- How the roles of steps change.
use Rattle.std.proofs.Common.{◌≡◌, ◌≢◌, ◌⊎◌, ℕ, ◌+◌, ◌<◌, List, [], ◌∷◌, ◌++◌, length, get_or, set, take, Contains, inl, inr, sym, ap, ◌∙◌, subst}
use Rattle.std.proofs.lemmas.Bool.{cases_eq}
use Rattle.std.proofs.lemmas.List.{take_more, length-set, get_or-set_same, get_or-set_other}
use Rattle.std.proofs.lemmas.List.Elements.{Contains-push, Contains-append_left, Contains-push_cases}
use Rattle.region_pool.specs.Literals.{negation}
use Rattle.sat_core.specs.declared.roles.Role.{Role}
use Rattle.sat_core.specs.declared.roles.Role.TheVariants.{Unused, Kept}
use Rattle.sat_core.specs.declared.trail.Step.{Step}
use Rattle.sat_core.specs.Roles.{role_at, Marks, Falsifies, Blames}
use Rattle.sat_core.specs.Steps.{step_at}

pub Marks-set : (roles : List Role) (at : ℕ) → at < length roles → role_at roles at ≡ Unused → Marks at roles (set roles at Kept)
Marks-set roles at within was =
    let here : role_at (set roles at Kept) at ≡ Kept = get_or-set_same roles at Kept Unused within in
    record {
      long = length-set roles at Kept;
      others = λ other n. get_or-set_other roles at other Kept Unused n;
      here = λ e. let f : Kept ≡ Unused = sym here ∙ e in cc;
      was = inr (was, here);
    }

module _ (steps : List Step) (clause : List ℕ) (i : ℕ) (within : i < length clause) (old roles : List Role) (blames : Blames steps (take i clause) old roles) where
  front : take (i + 1) clause ≡ take i clause ++ get_or clause i 0 ∷ []
  front = take_more clause i 0 within

  falsifies_cases : (at : ℕ) → Falsifies steps (take (i + 1) clause) at → Falsifies steps (take i clause) at ⊎ ((step_at steps at).literal ≡ negation (get_or clause i 0))
  falsifies_cases at (literal, member, e) =
      let m : Contains (take i clause ++ get_or clause i 0 ∷ []) literal = subst (λ (s : List ℕ). Contains s literal) front member in
      elim (Contains-push_cases (take i clause) (get_or clause i 0) literal m) [ inl k ↦ inl (literal, k, e) | inr k ↦ inr (e ∙ ap negation (sym k)) ]

  falsifies_more : (at : ℕ) → Falsifies steps (take i clause) at → Falsifies steps (take (i + 1) clause) at
  falsifies_more at (literal, member, e) = (literal, subst (λ (s : List ℕ). Contains s literal) (sym front) (Contains-append_left (take i clause) (get_or clause i 0 ∷ []) literal member), e)

  falsifies_here : (at : ℕ) → (step_at steps at).literal ≡ negation (get_or clause i 0) → Falsifies steps (take (i + 1) clause) at
  falsifies_here at e = (get_or clause i 0, subst (λ (s : List ℕ). Contains s (get_or clause i 0)) (sym front) (Contains-push (take i clause) (get_or clause i 0)), e)

  -- no step makes the next literal false
  pub blames_none : ((at : ℕ) → at < length steps → (step_at steps at).literal ≢ negation (get_or clause i 0)) → Blames steps (take (i + 1) clause) old roles
  blames_none none = record {
    long = blames.long;
    marks = λ at. elim (blames.marks at) [ inl e ↦ inl e | inr (a, b, c, d) ↦ inr (a, b, c, falsifies_more at d) ];
    covers = λ at h f. elim (falsifies_cases at f) [ inl g ↦ blames.covers at h g | inr e ↦ absurd (none at h e) ];
  }

  -- one does, and is marked
  pub blames_one : (place : ℕ) (new : List Role) → place < length steps → (step_at steps place).literal ≡ negation (get_or clause i 0) → ((at : ℕ) → at < length steps → (step_at steps at).literal ≡ negation (get_or clause i 0) → at ≡ place) → Marks place roles new → Blames steps (take (i + 1) clause) old new
  blames_one place new inside is only marks = record {
    long = marks.long ∙ blames.long;
    marks = λ at. elim (cases_eq at place) [
      | inl e ↦ subst (λ (n : ℕ). (role_at new n ≡ role_at old n) ⊎ ((n < length steps) × (role_at old n ≡ Unused) × (role_at new n ≡ Kept) × Falsifies steps (take (i + 1) clause) n)) (sym e) at_place
      | inr n ↦ elim (blames.marks at) [
        | inl e ↦ inl (marks.others at n ∙ e)
        | inr (a, b, c, d) ↦ inr (a, b, marks.others at n ∙ c, falsifies_more at d)
      ]
    ];
    covers = λ at h f. elim (cases_eq at place) [
      | inl e ↦ subst (λ (n : ℕ). role_at new n ≢ Unused) (sym e) marks.here
      | inr n ↦ elim (falsifies_cases at f) [
        | inl g ↦ λ e. blames.covers at h g (sym (marks.others at n) ∙ e)
        | inr g ↦ absurd (n (only at h g))
      ]
    ];
  }
    where
      at_place : (role_at new place ≡ role_at old place) ⊎ ((place < length steps) × (role_at old place ≡ Unused) × (role_at new place ≡ Kept) × Falsifies steps (take (i + 1) clause) place)
      at_place = elim marks.was [
        | inl e ↦ elim (blames.marks place) [
          | inl f ↦ inl (e ∙ f)
          | inr (a, b, c, d) ↦ inr (a, b, e ∙ c, falsifies_more place d)
        ]
        | inr (a, b) ↦ elim (blames.marks place) [
          | inl f ↦ inr (inside, sym f ∙ a, b, falsifies_here place is)
          | inr (c, d, e, f) ↦ let g : Kept ≡ Unused = sym e ∙ a in absurd (cc)
        ]
      ]

-- Failures that are put together, and some of them.
use Rattle.std.proofs.Common.{◌≡◌, ℕ, ◌+◌, ◌<◌, ◌≤◌, ◌||◌, Bool, true, false, List, [], ◌∷◌, ◌++◌, length, drop, get_or, subst, sym, ap, ◌∙◌, refl, ◌⊎◌, inl, inr}
use Rattle.std.proofs.lemmas.List.{drop_all, drop_more}
use Rattle.sym_terms.specs.declared.term.Term.{Term}
use Rattle.sym_terms.specs.Terms.{Keeps}
use Rattle.value_terms.specs.Made.{IsBit, IsTest, holds}
use Rattle.value_terms.proofs.MadeLaws.{bit_kept, grown_trans, holds_kept}
use Rattle.scalar_runs.specs.declared.breach.Breach.{Breach}
use Rattle.scalar_terms.specs.declared.failures.Failure.{Failure}
use Rattle.scalar_terms.specs.Ways.{AreFailures, Tells}
use Rattle.scalar_verdicts.specs.Failures.{AreOthers, AreOwn, IsOtherPut, IsOwnPut, IsPicked, IsSifted, IsSum, any_holds}

or_assoc : (a b c : Bool) → ((a || b) || c) ≡ (a || (b || c))
or_assoc true b c = refl
or_assoc false b c = refl

or_false : (a : Bool) → (a || false) ≡ a
or_false true = refl
or_false false = refl

or_right : (a b : Bool) → b ≡ true → (a || b) ≡ true
or_right true b h = refl
or_right false b h = h

pub sum_start : (old now : List Term) (root : ℕ) (all : List Failure) → IsTest old now root (λ inputs. false) → AreFailures old all → IsSum old now root all all
sum_start old now root all test failures = record {
  grown = test.grown;
  bit = test.bit;
  failures = failures;
  sum = λ inputs. ap (λ t. t || any_holds old inputs all) (test.holds_is inputs);
}

sum_on : (old now next : List Term) (root id : ℕ) (all left : List Failure) (x : Failure) → IsSum old now root all (x ∷ left)
    → IsTest now next id (λ inputs. holds now inputs root || holds now inputs x.term.0) → IsSum old next id all left
sum_on old now next root id all left x sum test = record {
  grown = grown_trans old now next sum.grown test.grown;
  bit = test.bit;
  failures = sum.failures.1;
  sum = λ inputs.
      ap (λ t. t || any_holds old inputs left) (test.holds_is inputs ∙ ap (λ t. holds now inputs root || t) (holds_kept old now inputs x.term.0 sum.grown.keeps sum.failures.0.inside))
      ∙ or_assoc (holds now inputs root) (holds old inputs x.term.0) (any_holds old inputs left) ∙ sum.sum inputs;
}

-- the next failure
pub sum_next : (old now : List Term) (root : ℕ) (all : List Failure) (i : ℕ) (d : Failure) → i < length all → IsSum old now root all (drop i all) → IsBit now (get_or all i d).term.0
sum_next old now root all i d less sum =
    let next : IsSum old now root all (get_or all i d ∷ drop (i + 1) all) = subst (IsSum old now root all) (drop_more all i d less) sum in
    bit_kept old now (get_or all i d).term.0 next.grown.keeps next.failures.0

pub sum_more : (old now next : List Term) (root id : ℕ) (all : List Failure) (i : ℕ) (d : Failure) → i < length all → IsSum old now root all (drop i all)
    → IsTest now next id (λ inputs. holds now inputs root || holds now inputs (get_or all i d).term.0) → IsSum old next id all (drop (i + 1) all)
sum_more old now next root id all i d less sum test = sum_on old now next root id all (drop (i + 1) all) (get_or all i d) (subst (IsSum old now root all) (drop_more all i d less) sum) test

sum_of_none : (old now : List Term) (root : ℕ) (all : List Failure) → IsSum old now root all [] → IsTest old now root (λ inputs. any_holds old inputs all)
sum_of_none old now root all sum = record { grown = sum.grown; bit = sum.bit; holds_is = λ inputs. sym (or_false (holds now inputs root)) ∙ sum.sum inputs }

pub sum_all : (old now : List Term) (root : ℕ) (all : List Failure) (i : ℕ) → length all ≤ i → IsSum old now root all (drop i all) → IsTest old now root (λ inputs. any_holds old inputs all)
sum_all old now root all i end sum = sum_of_none old now root all (subst (IsSum old now root all) (drop_all i all end) sum)

-- a fault that some failure tells
pub record SomeTold (terms : List Term) (inputs : ℕ → ℕ) (failures : List Failure) : Type 0 where
  pub breach : Breach
  pub tells : Tells terms inputs failures breach

pub some_told : (terms : List Term) (inputs : ℕ → ℕ) (failures : List Failure) → any_holds terms inputs failures ≡ true → SomeTold terms inputs failures
some_told terms inputs [] h = cc
some_told terms inputs (x ∷ xs) h = by_first (some_told terms inputs xs) (holds terms inputs x.term.0) refl h where
  by_first : (any_holds terms inputs xs ≡ true → SomeTold terms inputs xs) → (t : Bool) → holds terms inputs x.term.0 ≡ t → (t || any_holds terms inputs xs) ≡ true → SomeTold terms inputs (x ∷ xs)
  by_first later true e g = record { breach = x.breach; tells = inl (refl, e) }
  by_first later false e g = record { breach = (later g).breach; tells = inr (later g).tells }

pub told_any : (terms : List Term) (inputs : ℕ → ℕ) (failures : List Failure) (b : Breach) → Tells terms inputs failures b → any_holds terms inputs failures ≡ true
told_any terms inputs [] b tells = absurd tells
told_any terms inputs (x ∷ xs) b tells = elim tells [
  | inl here ↦ ap (λ t. t || any_holds terms inputs xs) here.1
  | inr later ↦ or_right (holds terms inputs x.term.0) (any_holds terms inputs xs) (told_any terms inputs xs b later)
]

pub failures_kept : (old new : List Term) (failures : List Failure) → Keeps old new → AreFailures old failures → AreFailures new failures
failures_kept old new [] keeps are = tt
failures_kept old new (x ∷ xs) keeps are = (bit_kept old new x.term.0 keeps are.0, failures_kept old new xs keeps are.1)

pub told_kept : (old new : List Term) (inputs : ℕ → ℕ) (failures : List Failure) (b : Breach) → Keeps old new → AreFailures old failures → Tells old inputs failures b → Tells new inputs failures b
told_kept old new inputs [] b keeps are tells = tells
told_kept old new inputs (x ∷ xs) b keeps are tells = elim tells [
  | inl here ↦ inl (here.0, holds_kept old new inputs x.term.0 keeps are.0.inside ∙ here.1)
  | inr later ↦ inr (told_kept old new inputs xs b keeps are.1 later)
]

pub told_before : (old new : List Term) (inputs : ℕ → ℕ) (failures : List Failure) (b : Breach) → Keeps old new → AreFailures old failures → Tells new inputs failures b → Tells old inputs failures b
told_before old new inputs [] b keeps are tells = tells
told_before old new inputs (x ∷ xs) b keeps are tells = elim tells [
  | inl here ↦ inl (here.0, sym (holds_kept old new inputs x.term.0 keeps are.0.inside) ∙ here.1)
  | inr later ↦ inr (told_before old new inputs xs b keeps are.1 later)
]

failures_append : (terms : List Term) (xs : List Failure) (x : Failure) → AreFailures terms xs → IsBit terms x.term.0 → AreFailures terms (xs ++ x ∷ [])
failures_append terms [] x are this = (this, tt)
failures_append terms (y ∷ ys) x are this = (are.0, failures_append terms ys x are.1 this)

tells_append : (terms : List Term) (inputs : ℕ → ℕ) (xs ys : List Failure) (b : Breach) → Tells terms inputs xs b → Tells terms inputs (xs ++ ys) b
tells_append terms inputs [] ys b tells = absurd tells
tells_append terms inputs (x ∷ xs) ys b tells = elim tells [ inl here ↦ inl here | inr later ↦ inr (tells_append terms inputs xs ys b later) ]

-- this failure tells the fault
abbrev IsHere : List Term → (ℕ → ℕ) → Failure → Breach → Type 0
IsHere terms inputs x b = (x.breach ≡ b) × (holds terms inputs x.term.0 ≡ true)

tells_last : (terms : List Term) (inputs : ℕ → ℕ) (xs : List Failure) (x : Failure) (b : Breach) → IsHere terms inputs x b → Tells terms inputs (xs ++ x ∷ []) b
tells_last terms inputs [] x b here = inl here
tells_last terms inputs (y ∷ ys) x b here = inr (tells_last terms inputs ys x b here)

tells_parts : (terms : List Term) (inputs : ℕ → ℕ) (xs : List Failure) (x : Failure) (b : Breach) → Tells terms inputs (xs ++ x ∷ []) b → Tells terms inputs xs b ⊎ IsHere terms inputs x b
tells_parts terms inputs [] x b tells = elim tells [ inl here ↦ inr here | inr later ↦ absurd later ]
tells_parts terms inputs (y ∷ ys) x b tells = elim tells [
  | inl here ↦ inl (inl here)
  | inr later ↦ elim (tells_parts terms inputs ys x b later) [ inl before ↦ inl (inr before) | inr last ↦ inr last ]
]

pub sifted_start : (b : Breach) (all : List Failure) → IsSifted b all [] all
sifted_start b all = record {
  failures = λ terms are. (tt, are);
  there = λ terms inputs x tells. inr (inr tells);
  kept_back = λ terms inputs x tells. absurd tells;
  left_back = λ terms inputs x tells. tells;
}

-- a failure of the fault is passed over
sifted_passed : (b : Breach) (all kept left : List Failure) (y : Failure) → IsSifted b all kept (y ∷ left) → y.breach ≡ b → IsSifted b all kept left
sifted_passed b all kept left y sifted same = record {
  failures = λ terms are. ((sifted.failures terms are).0, (sifted.failures terms are).1.1);
  there = λ terms inputs x tells. elim (sifted.there terms inputs x tells) [
    | inl is ↦ inl is
    | inr some ↦ elim some [
      | inl before ↦ inr (inl before)
      | inr next ↦ elim next [ inl here ↦ inl (sym here.0 ∙ same) | inr later ↦ inr (inr later) ]
    ]
  ];
  kept_back = sifted.kept_back;
  left_back = λ terms inputs x tells. sifted.left_back terms inputs x (inr tells);
}

-- a failure of another fault is kept
sifted_kept : (b : Breach) (all kept left : List Failure) (y : Failure) → IsSifted b all kept (y ∷ left) → (y.breach ≡ b → ⊥) → IsSifted b all (kept ++ y ∷ []) left
sifted_kept b all kept left y sifted other = record {
  failures = λ terms are. (failures_append terms kept y (sifted.failures terms are).0 (sifted.failures terms are).1.0, (sifted.failures terms are).1.1);
  there = λ terms inputs x tells. elim (sifted.there terms inputs x tells) [
    | inl is ↦ inl is
    | inr some ↦ elim some [
      | inl before ↦ inr (inl (tells_append terms inputs kept (y ∷ []) x before))
      | inr next ↦ elim next [ inl here ↦ inr (inl (tells_last terms inputs kept y x here)) | inr later ↦ inr (inr later) ]
    ]
  ];
  kept_back = λ terms inputs x tells. elim (tells_parts terms inputs kept y x tells) [
    | inl before ↦ sifted.kept_back terms inputs x before
    | inr here ↦ (sifted.left_back terms inputs x (inl here), λ same. other (here.0 ∙ same))
  ];
  left_back = λ terms inputs x tells. sifted.left_back terms inputs x (inr tells);
}

pub sifted_more : (b : Breach) (all kept new : List Failure) (i : ℕ) (d : Failure) → i < length all → IsSifted b all kept (drop i all) → IsOtherPut b (get_or all i d) kept new → IsSifted b all new (drop (i + 1) all)
sifted_more b all kept new i d less sifted put =
    let next : IsSifted b all kept (get_or all i d ∷ drop (i + 1) all) = subst (IsSifted b all kept) (drop_more all i d less) sifted in
    elim put [
      | inl same ↦ subst (λ xs. IsSifted b all xs (drop (i + 1) all)) (sym same.1) (sifted_passed b all kept (drop (i + 1) all) (get_or all i d) next same.0)
      | inr other ↦ subst (λ xs. IsSifted b all xs (drop (i + 1) all)) (sym other.1) (sifted_kept b all kept (drop (i + 1) all) (get_or all i d) next other.0)
    ]

sifted_none : (b : Breach) (all kept : List Failure) → IsSifted b all kept [] → AreOthers b all kept
sifted_none b all kept sifted = record {
  failures = λ terms are. (sifted.failures terms are).0;
  there = λ terms inputs x tells. elim (sifted.there terms inputs x tells) [
    | inl is ↦ inl is
    | inr some ↦ elim some [ inl before ↦ inr before | inr none ↦ absurd none ]
  ];
  back = sifted.kept_back;
}

pub sifted_all : (b : Breach) (all kept : List Failure) (i : ℕ) → length all ≤ i → IsSifted b all kept (drop i all) → AreOthers b all kept
sifted_all b all kept i end sifted = sifted_none b all kept (subst (IsSifted b all kept) (drop_all i all end) sifted)

pub picked_start : (b : Breach) (all : List Failure) → IsPicked b all [] all
picked_start b all = record {
  failures = λ terms are. (tt, are);
  there = λ terms inputs tells. inr tells;
  kept_back = λ terms inputs x tells. absurd tells;
  left_back = λ terms inputs x tells. tells;
}

picked_kept : (b : Breach) (all kept left : List Failure) (y : Failure) → IsPicked b all kept (y ∷ left) → y.breach ≡ b → IsPicked b all (kept ++ y ∷ []) left
picked_kept b all kept left y picked same = record {
  failures = λ terms are. (failures_append terms kept y (picked.failures terms are).0 (picked.failures terms are).1.0, (picked.failures terms are).1.1);
  there = λ terms inputs tells. elim (picked.there terms inputs tells) [
    | inl before ↦ inl (tells_append terms inputs kept (y ∷ []) b before)
    | inr next ↦ elim next [ inl here ↦ inl (tells_last terms inputs kept y b here) | inr later ↦ inr later ]
  ];
  kept_back = λ terms inputs x tells. elim (tells_parts terms inputs kept y x tells) [
    | inl before ↦ picked.kept_back terms inputs x before
    | inr here ↦ (sym here.0 ∙ same, picked.left_back terms inputs b (inl (same, here.1)))
  ];
  left_back = λ terms inputs x tells. picked.left_back terms inputs x (inr tells);
}

picked_passed : (b : Breach) (all kept left : List Failure) (y : Failure) → IsPicked b all kept (y ∷ left) → (y.breach ≡ b → ⊥) → IsPicked b all kept left
picked_passed b all kept left y picked other = record {
  failures = λ terms are. ((picked.failures terms are).0, (picked.failures terms are).1.1);
  there = λ terms inputs tells. elim (picked.there terms inputs tells) [
    | inl before ↦ inl before
    | inr next ↦ elim next [ inl here ↦ absurd (other here.0) | inr later ↦ inr later ]
  ];
  kept_back = picked.kept_back;
  left_back = λ terms inputs x tells. picked.left_back terms inputs x (inr tells);
}

pub picked_more : (b : Breach) (all kept new : List Failure) (i : ℕ) (d : Failure) → i < length all → IsPicked b all kept (drop i all) → IsOwnPut b (get_or all i d) kept new → IsPicked b all new (drop (i + 1) all)
picked_more b all kept new i d less picked put =
    let next : IsPicked b all kept (get_or all i d ∷ drop (i + 1) all) = subst (IsPicked b all kept) (drop_more all i d less) picked in
    elim put [
      | inl same ↦ subst (λ xs. IsPicked b all xs (drop (i + 1) all)) (sym same.1) (picked_kept b all kept (drop (i + 1) all) (get_or all i d) next same.0)
      | inr other ↦ subst (λ xs. IsPicked b all xs (drop (i + 1) all)) (sym other.1) (picked_passed b all kept (drop (i + 1) all) (get_or all i d) next other.0)
    ]

picked_none : (b : Breach) (all kept : List Failure) → IsPicked b all kept [] → AreOwn b all kept
picked_none b all kept picked = record {
  failures = λ terms are. (picked.failures terms are).0;
  there = λ terms inputs tells. elim (picked.there terms inputs tells) [ inl before ↦ before | inr none ↦ absurd none ];
  back = picked.kept_back;
}

pub picked_all : (b : Breach) (all kept : List Failure) (i : ℕ) → length all ≤ i → IsPicked b all kept (drop i all) → AreOwn b all kept
picked_all b all kept i end picked = picked_none b all kept (subst (IsPicked b all kept) (drop_all i all end) picked)

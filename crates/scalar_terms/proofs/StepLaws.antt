-- What is known behind a statement.
use Rattle.std.proofs.Common.{◌≡◌, ◌≢◌, ◌↔◌, ℕ, ◌<◌, ◌==◌, ◌&&◌, not, Bool, true, false, cond, List, [], ◌∷◌, length, Option, Some, None, subst, sym, ap, ◌∙◌, refl, ◌⊎◌, inl, inr, get_or}
use Rattle.std.specs.Prelude.{Result, Ok, Err, slice_get, slice_set, slice_index_or}
use Rattle.std.proofs.lemmas.Bool.{eqb-true, eqb-false}
use Rattle.std.proofs.lemmas.List.{get_or-set_same, get_or-set_other, length-set}
use Rattle.std.proofs.lemmas.Option.{slice_get_within, slice_get-get_or, get_or_from_slice_get}
use Rattle.vk_core.specs.declared.check.CheckClass.{CheckClass}
use Rattle.vk_core.specs.declared.check.CheckClass.TheVariants as class
use Rattle.word_bits.specs.declared.word.Word.{Word}
use Rattle.mir_ir.specs.declared.places.PlaceExpr.{PlaceExpr}
use Rattle.mir_ir.specs.declared.tree.Function.{Function}
use Rattle.mir_ir.specs.declared.tree.Rvalue.{Rvalue}
use Rattle.mir_ir.specs.declared.tree.Statement.TheVariants as statement
use Rattle.sym_terms.specs.declared.term.Term.{Term}
use Rattle.sym_terms.specs.declared.term.TermId.{TermId}
use Rattle.sym_terms.specs.Terms.{Keeps, value, width_of}
use Rattle.scalar_runs.specs.declared.breach.Breach.{Breach}
use Rattle.scalar_runs.specs.declared.kinds.ValueKind.{ValueKind}
use Rattle.scalar_runs.specs.declared.kinds.ValueKind.TheVariants as kind
use Rattle.scalar_runs.specs.Kinds.{same_kind, width_of_kind}
use Rattle.scalar_runs.specs.Look.{local_kind}
use Rattle.scalar_runs.specs.Run.{assigned, stored}
use Rattle.scalar_form.specs.Typing.{agree, has_kind, is_local, place_kind, rvalue_kind}
use Rattle.scalar_runs.specs.Values.{Values, rvalue_value}
use Rattle.scalar_terms.specs.declared.failures.Failure.{Failure}
use Rattle.scalar_terms.specs.declared.ways.Split.{Split}
use Rattle.scalar_terms.specs.declared.ways.Way.{Way}
use Rattle.value_terms.specs.declared.rvalues.ValueTerms.{ValueTerms}
use Rattle.value_terms.specs.declared.slots.Slot.{Slot}
use Rattle.value_terms.specs.Made.{Grown, IsBit, holds}
use Rattle.value_terms.specs.Rvalues.{IsRvalue, RvalueIs}
use Rattle.value_terms.specs.Slots.{AreHeld, AreSlots, IsSlot, SlotIs, slot_width}
use Rattle.scalar_terms.specs.Places.{Spot, Here, There, spot_of, standing, stated}
use Rattle.scalar_terms.specs.Steps.{IsNotedTwice, IsStated, breach_of}
use Rattle.scalar_terms.specs.Ways.{AreFailures, IsFaultAt, IsNoted, IsSplit, IsWay, PointIs, PointOf, Tells, ToldIn}
use Rattle.value_terms.proofs.MadeLaws.{bit_kept, grown_trans, holds_kept}
use Rattle.value_terms.proofs.RvalueLaws.{held_kept, inside_kept, slots_kept}
use Rattle.value_terms.proofs.TypedLaws.{same_width}

pub noted_twice : (terms : List Term) (fs gs hs : List Failure) (x y : Breach) (a b : TermId) → IsNoted terms fs gs x a → IsNoted terms gs hs y b → IsNotedTwice terms fs hs x a y b
noted_twice terms fs gs hs x y a b first second = record {
  failures = λ are. second.failures (first.failures are);
  tells = λ inputs z. (
    λ told. elim ((second.tells inputs z).0 told) [ inl before ↦ inl ((first.tells inputs z).0 before) | inr this ↦ inr this ],
    λ told. (second.tells inputs z).1 (elim told [ inl before ↦ inl ((first.tells inputs z).1 before) | inr this ↦ inr this ]),
  );
}

-- what was told of earlier terms is told of later ones
tells_later : (old new : List Term) (inputs : ℕ → ℕ) (fs : List Failure) (b : Breach) → Keeps old new → AreFailures old fs → Tells old inputs fs b → Tells new inputs fs b
tells_later old new inputs [] b keeps are told = told
tells_later old new inputs (x ∷ xs) b keeps are told = elim told [ inl this ↦ inl (this.0, holds_kept old new inputs x.term.0 keeps are.0.inside ∙ this.1) | inr later ↦ inr (tells_later old new inputs xs b keeps are.1 later) ]

tells_before : (old new : List Term) (inputs : ℕ → ℕ) (fs : List Failure) (b : Breach) → Keeps old new → AreFailures old fs → Tells new inputs fs b → Tells old inputs fs b
tells_before old new inputs [] b keeps are told = told
tells_before old new inputs (x ∷ xs) b keeps are told = elim told [ inl this ↦ inl (this.0, sym (holds_kept old new inputs x.term.0 keeps are.0.inside) ∙ this.1) | inr later ↦ inr (tells_before old new inputs xs b keeps are.1 later) ]

pub tells_kept : (old new : List Term) (inputs : ℕ → ℕ) (fs : List Failure) (b : Breach) → Keeps old new → AreFailures old fs → Tells new inputs fs b ↔ Tells old inputs fs b
tells_kept old new inputs fs b keeps are = (tells_before old new inputs fs b keeps are, tells_later old new inputs fs b keeps are)

pub failures_kept : (old new : List Term) (fs : List Failure) → Keeps old new → AreFailures old fs → AreFailures new fs
failures_kept old new [] keeps are = tt
failures_kept old new (x ∷ xs) keeps are = (bit_kept old new x.term.0 keeps are.0, failures_kept old new xs keeps are.1)

clash : (b : Bool) → b ≡ false → b ≡ true → ⊥
clash b e f = cc

-- two failures that do not come
pub told_same : (old new : List Term) (inputs : ℕ → ℕ) (fs gs : List Failure) (x y : Breach) (a b : TermId) (S : Breach → Type 0) → Keeps old new → AreFailures old fs → IsNotedTwice new fs gs x a y b
    → ((z : Breach) → Tells old inputs fs z ↔ S z) → holds new inputs a.0 ≡ false → holds new inputs b.0 ≡ false → (z : Breach) → Tells new inputs gs z ↔ S z
told_same old new inputs fs gs x y a b S keeps are noted told ha hb z = (
  λ now. elim ((noted.tells inputs z).0 now) [
    | inl before ↦ elim before [ inl old_told ↦ (told z).0 (tells_before old new inputs fs z keeps are old_told) | inr this ↦ absurd (clash (holds new inputs a.0) ha this.1) ]
    | inr this ↦ absurd (clash (holds new inputs b.0) hb this.1)
  ],
  λ s. (noted.tells inputs z).1 (inl (inl (tells_later old new inputs fs z keeps are ((told z).1 s)))),
)

-- the first of them comes
pub told_first : (old new : List Term) (inputs : ℕ → ℕ) (fs gs : List Failure) (x y : Breach) (a b : TermId) → Keeps old new → AreFailures old fs → IsNotedTwice new fs gs x a y b
    → ((z : Breach) → Tells old inputs fs z ↔ ⊥) → holds new inputs a.0 ≡ true → holds new inputs b.0 ≡ false → (z : Breach) → Tells new inputs gs z ↔ (x ≡ z)
told_first old new inputs fs gs x y a b keeps are noted told ha hb z = (
  λ now. elim ((noted.tells inputs z).0 now) [
    | inl before ↦ elim before [ inl old_told ↦ absurd ((told z).0 (tells_before old new inputs fs z keeps are old_told)) | inr this ↦ this.0 ]
    | inr this ↦ absurd (clash (holds new inputs b.0) hb this.1)
  ],
  λ s. (noted.tells inputs z).1 (inl (inr (s, ha))),
)

-- the second of them comes
pub told_second : (old new : List Term) (inputs : ℕ → ℕ) (fs gs : List Failure) (x y : Breach) (a b : TermId) → Keeps old new → AreFailures old fs → IsNotedTwice new fs gs x a y b
    → ((z : Breach) → Tells old inputs fs z ↔ ⊥) → holds new inputs a.0 ≡ false → holds new inputs b.0 ≡ true → (z : Breach) → Tells new inputs gs z ↔ (y ≡ z)
told_second old new inputs fs gs x y a b keeps are noted told ha hb z = (
  λ now. elim ((noted.tells inputs z).0 now) [
    | inl before ↦ elim before [ inl old_told ↦ absurd ((told z).0 (tells_before old new inputs fs z keeps are old_told)) | inr this ↦ absurd (clash (holds new inputs a.0) ha this.1) ]
    | inr this ↦ this.0
  ],
  λ s. (noted.tells inputs z).1 (inr (s, hb)),
)

-- an item of a list with one item changed
set_cases : {X : Type 0} → (xs : List X) (p n : ℕ) (x y : X) → slice_get (slice_set xs p x) n ≡ Some y → ((n ≡ p) × (y ≡ x) × (p < length xs)) ⊎ ((n ≢ p) × (slice_get xs n ≡ Some y))
set_cases xs p n x y e = by_cases (n == p) refl where
  inside : n < length xs
  inside = subst (λ k. n < k) (length-set xs p x) (slice_get_within (slice_set xs p x) n y e)

  item : get_or (slice_set xs p x) n y ≡ y
  item = get_or_from_slice_get (slice_set xs p x) n y y e

  by_cases : (t : Bool) → (n == p) ≡ t → ((n ≡ p) × (y ≡ x) × (p < length xs)) ⊎ ((n ≢ p) × (slice_get xs n ≡ Some y))
  by_cases true same =
      let e1 : n ≡ p = eqb-true n p same in
      let within : p < length xs = subst (λ k. k < length xs) e1 inside in
      inl (e1, sym item ∙ ap (λ k. get_or (slice_set xs p x) k y) e1 ∙ get_or-set_same xs p x y within, within)
  by_cases false other =
      let apart : n ≢ p = eqb-false n p other in
      inr (apart, slice_get-get_or xs n y inside ∙ ap Some (sym (get_or-set_other xs p n x y apart) ∙ item))

pub slots_set : (f : Function) (terms : List Term) (slots : List Slot) (p : ℕ) (slot : Slot) → AreSlots f terms slots → IsSlot terms (slot_width (local_kind f p)) slot → AreSlots f terms (slice_set slots p slot)
slots_set f terms slots p slot are is = record {
  one_each = length-set slots p slot ∙ are.one_each;
  each = λ n s at. elim (set_cases slots p n slot s at) [
    | inl here ↦ subst (λ k. IsSlot terms (slot_width (local_kind f k)) s) (sym here.0) (subst (λ x. IsSlot terms (slot_width (local_kind f p)) x) (sym here.1) is)
    | inr there ↦ are.each n s there.1
  ];
}

pub held_set : (terms : List Term) (inputs : ℕ → ℕ) (slots : List Slot) (values : Values) (p : ℕ) (slot : Slot) (w : Word) → AreHeld terms inputs slots values → SlotIs terms inputs slot (Some w) → AreHeld terms inputs (slice_set slots p slot) (stored values p w)
held_set terms inputs slots values p slot w held is = record {
  one_each = length-set values p (Some w) ∙ held.one_each ∙ sym (length-set slots p slot);
  each = λ n s at. elim (set_cases slots p n slot s at) [
    | inl here ↦ (
        let within : p < length values = subst (λ k. p < k) (sym held.one_each) here.2 in
        subst (λ k. SlotIs terms inputs s (slice_index_or (stored values p w) k None)) (sym here.0)
        (subst (λ v. SlotIs terms inputs s v) (sym (get_or-set_same values p (Some w) None within)) (subst (λ x. SlotIs terms inputs x (Some w)) (sym here.1) is)))
    | inr there ↦ subst (λ v. SlotIs terms inputs s v) (sym (get_or-set_other values p n (Some w) None there.0)) (held.each n s there.1)
  ];
}

same_kind_width : (a b : ValueKind) → same_kind a b ≡ true → width_of_kind b ≡ width_of_kind a
same_kind_width kind.Bool kind.Bool h = refl
same_kind_width kind.Char kind.Char h = refl
same_kind_width (kind.Int i) (kind.Int j) h = same_width i j h
same_kind_width kind.Unit kind.Unit h = refl
same_kind_width kind.Never kind.Never h = refl
same_kind_width _ _ h = cc

pub agree_width : (a b : Option ValueKind) → agree a b ≡ true → slot_width b ≡ slot_width a
agree_width (Some a) (Some b) h = same_kind_width a b h
agree_width _ _ h = cc

pub agree_second : (a b : Option ValueKind) → agree a b ≡ true → has_kind b ≡ true
agree_second (Some a) (Some b) h = refl
agree_second _ _ h = cc

pub agree_first : (a b : Option ValueKind) → agree a b ≡ true → has_kind a ≡ true
agree_first (Some a) (Some b) h = refl
agree_first _ _ h = cc

pub place_is : (f : Function) (p : PlaceExpr) → has_kind (place_kind f p) ≡ true → place_kind f p ≡ local_kind f p.local.0
place_is f p h = by_cases (is_local p) refl h where
  by_cases : (t : Bool) → is_local p ≡ t → has_kind (cond t (local_kind f p.local.0) None) ≡ true → cond (is_local p) (local_kind f p.local.0) None ≡ local_kind f p.local.0
  by_cases true e g = ap (λ t. cond t (local_kind f p.local.0) None) e
  by_cases false e g = cc

-- the value is stored where there is one, else the run ends
value_case : (f : Function) (old mid new : List Term) (inputs : ℕ → ℕ) (was : Way) (fs gs : List Failure) (b i p : ℕ) (v : Values) (made : ValueTerms) (t : Split) (r : Result Word CheckClass) → AreFailures old fs → Keeps old new
    → IsBit mid made.set.0 → IsBit mid made.lawful.0 → made.word.0 < length mid → IsSplit mid new was.guard.0 made.set.0 made.lawful.0 t → IsNotedTwice new fs gs (breach_of b i class.Uninit) t.unset (breach_of b i class.Division) t.unlawful
    → holds mid inputs was.guard.0 ≡ true → AreHeld new inputs was.slots.items v → ((z : Breach) → Tells old inputs fs z ↔ ⊥) → RvalueIs mid inputs made r
    → PointOf new inputs t.guard (slice_set was.slots.items p (record { set = t.always; word = made.word })) (spot_of (standing b i v) (assigned (standing b i v) p r))
    × ToldIn new inputs gs (spot_of (standing b i v) (assigned (standing b i v) p r))
value_case f old mid new inputs was fs gs b i p v made t (Ok w) are keeps hs hl hw split noted guard held told is =
    let l = holds mid inputs made.lawful.0 in
    let s = holds mid inputs made.set.0 in (
      (
        split.goes_is inputs ∙ ap (λ g. (g && s) && l) guard ∙ ap (λ x. x && l) is.0 ∙ is.1,
        held_set new inputs was.slots.items v p (record { set = t.always; word = made.word }) w held (split.always_is inputs, split.grown.keeps.values_kept inputs made.word.0 hw ∙ is.2),
      ),
      told_same old new inputs fs gs _ _ t.unset t.unlawful (λ z. ⊥) keeps are noted told
          (split.unset_is inputs ∙ ap (λ g. g && not s) guard ∙ ap not is.0)
          (split.unlawful_is inputs ∙ ap (λ g. (g && s) && not l) guard ∙ ap (λ x. x && not l) is.0 ∙ ap not is.1),
    )
value_case f old mid new inputs was fs gs b i p v made t (Err c) are keeps hs hl hw split noted guard held told is = elim is [
  | inl unset ↦ (
    split.goes_is inputs ∙ ap (λ g. (g && holds mid inputs made.set.0) && holds mid inputs made.lawful.0) guard ∙ ap (λ x. x && holds mid inputs made.lawful.0) unset.1,
    subst (λ k. (z : Breach) → Tells new inputs gs z ↔ (breach_of b i k ≡ z)) (sym unset.0)
        (told_first old new inputs fs gs _ _ t.unset t.unlawful keeps are noted told
        (split.unset_is inputs ∙ ap (λ g. g && not (holds mid inputs made.set.0)) guard ∙ ap not unset.1)
        (split.unlawful_is inputs ∙ ap (λ g. (g && holds mid inputs made.set.0) && not (holds mid inputs made.lawful.0)) guard ∙ ap (λ x. x && not (holds mid inputs made.lawful.0)) unset.1)),
  )
  | inr unlawful ↦ (
    split.goes_is inputs ∙ ap (λ g. (g && holds mid inputs made.set.0) && holds mid inputs made.lawful.0) guard ∙ ap (λ x. x && holds mid inputs made.lawful.0) unlawful.1 ∙ unlawful.2,
    subst (λ k. (z : Breach) → Tells new inputs gs z ↔ (breach_of b i k ≡ z)) (sym unlawful.0)
        (told_second old new inputs fs gs _ _ t.unset t.unlawful keeps are noted told
        (split.unset_is inputs ∙ ap (λ g. g && not (holds mid inputs made.set.0)) guard ∙ ap not unlawful.1)
        (split.unlawful_is inputs ∙ ap (λ g. (g && holds mid inputs made.set.0) && not (holds mid inputs made.lawful.0)) guard ∙ ap (λ x. x && not (holds mid inputs made.lawful.0)) unlawful.1 ∙ ap not unlawful.2)),
  )
]

-- nothing happens elsewhere
pub elsewhere : (old mid new : List Term) (inputs : ℕ → ℕ) (fs gs : List Failure) (x y : Breach) (guard first second : ℕ) (t : Split) (S : Breach → Type 0) → AreFailures old fs → Keeps old new → IsSplit mid new guard first second t → IsNotedTwice new fs gs x t.unset y t.unlawful
    → holds mid inputs guard ≡ false → ((z : Breach) → Tells old inputs fs z ↔ S z) → (holds new inputs t.guard.0 ≡ false) × ((z : Breach) → Tells new inputs gs z ↔ S z)
elsewhere old mid new inputs fs gs x y guard first second t S are keeps split noted none told = (
  split.goes_is inputs ∙ ap (λ g. (g && holds mid inputs first) && holds mid inputs second) none,
  told_same old new inputs fs gs x y t.unset t.unlawful S keeps are noted told
      (split.unset_is inputs ∙ ap (λ g. g && not (holds mid inputs first)) none)
      (split.unlawful_is inputs ∙ ap (λ g. (g && holds mid inputs first) && not (holds mid inputs second)) none),
)

pub stated_made : (f : Function) (old mid new : List Term) (was now : Way) (fs gs : List Failure) (b i : ℕ) (place : PlaceExpr) (value : Rvalue) (made : ValueTerms) (t : Split) → IsWay f old was → AreFailures old fs
    → agree (place_kind f place) (rvalue_kind f value) ≡ true → IsRvalue f old mid was.slots.items (rvalue_kind f value) (λ values. rvalue_value f values value) made
    → IsSplit mid new was.guard.0 made.set.0 made.lawful.0 t → IsNotedTwice new fs gs (breach_of b i class.Uninit) t.unset (breach_of b i class.Division) t.unlawful
    → now.guard ≡ t.guard → now.slots.items ≡ slice_set was.slots.items place.local.0 (record { set = t.always; word = made.word })
    → IsStated f old new was now fs gs b i (statement.Assign place value)
stated_made f old mid new was now fs gs b i place value made t way are typed got split noted e g =
    let all : Grown old new = grown_trans old mid new got.grown split.grown in
    let p = place.local.0 in
    let width : width_of mid made.word.0 ≡ slot_width (local_kind f p) = got.width_is ∙ agree_width _ _ typed ∙ ap slot_width (place_is f place (agree_first _ _ typed)) in
    let slot : IsSlot new (slot_width (local_kind f p)) (record { set = t.always; word = made.word }) = record { set = split.always; inside = inside_kept mid new made.word.0 split.grown.keeps got.inside; width_is = split.grown.keeps.widths_kept made.word.0 got.inside ∙ width } in
    record {
      grown = all;
      way = record {
        guard = subst (λ x. IsBit new x.0) (sym e) split.goes;
        slots = subst (AreSlots f new) (sym g) (slots_set f new was.slots.items p (record { set = t.always; word = made.word }) (slots_kept f old new was.slots.items all.keeps way.slots) slot);
      };
      failures = noted.failures (failures_kept old new fs all.keeps are);
      is = λ inputs spot point told.
          let there = by_spot f old mid new inputs was fs gs b i place value made t way are got split noted all spot point told in (
            subst (λ x. PointOf new inputs x now.slots.items (stated f b i (statement.Assign place value) spot)) (sym e)
                (subst (λ ys. PointOf new inputs t.guard ys (stated f b i (statement.Assign place value) spot)) (sym g) there.0),
            there.1,
          );
    }
  where
    by_spot : (f : Function) (old mid new : List Term) (inputs : ℕ → ℕ) (was : Way) (fs gs : List Failure) (b i : ℕ) (place : PlaceExpr) (value : Rvalue) (made : ValueTerms) (t : Split) → IsWay f old was → AreFailures old fs
        → IsRvalue f old mid was.slots.items (rvalue_kind f value) (λ values. rvalue_value f values value) made → IsSplit mid new was.guard.0 made.set.0 made.lawful.0 t
        → IsNotedTwice new fs gs (breach_of b i class.Uninit) t.unset (breach_of b i class.Division) t.unlawful → Grown old new → (spot : Spot) → PointIs old inputs was spot → ToldIn old inputs fs spot
        → PointOf new inputs t.guard (slice_set was.slots.items place.local.0 (record { set = t.always; word = made.word })) (stated f b i (statement.Assign place value) spot)
        × ToldIn new inputs gs (stated f b i (statement.Assign place value) spot)
    by_spot f old mid new inputs was fs gs b i place value made t way are got split noted all (Here v) point told =
        value_case f old mid new inputs was fs gs b i place.local.0 v made t (rvalue_value f v value) are all.keeps got.set got.lawful got.inside split noted
        (holds_kept old mid inputs was.guard.0 got.grown.keeps way.guard.inside ∙ point.0) (held_kept old new inputs f was.slots.items v all.keeps way.slots point.1) told (got.is inputs v point.1)
    by_spot f old mid new inputs was fs gs b i place value made t way are got split noted all (There x) point told =
        elsewhere old mid new inputs fs gs _ _ was.guard.0 made.set.0 made.lawful.0 t (IsFaultAt x) are all.keeps split noted (holds_kept old mid inputs was.guard.0 got.grown.keeps way.guard.inside ∙ point) told

-- Two ways that come to one point.
use Rattle.std.proofs.Common.{◌≡◌, ℕ, zero, suc, ◌<◌, ◌≤◌, ◌==◌, ◌||◌, ◌-◌, true, false, cond, List, [], ◌∷◌, ◌++◌, length, Option, Some, None, append_assoc, append-nil, take, drop, get_or, subst, sym, ap, ◌∙◌, refl, arith}
use Rattle.std.specs.Prelude.{slice_get, slice_index_or}
use Rattle.std.proofs.lemmas.Option.{same_Some}
use Rattle.std.proofs.Math.Seq.{take-length}
use Rattle.word_bits.specs.declared.word.Word.{Word}
use Rattle.mir_ir.specs.declared.tree.Function.{Function}
use Rattle.sym_terms.specs.declared.term.Term.{Term}
use Rattle.sym_terms.specs.Terms.{Keeps, value, width_of}
use Rattle.scalar_runs.specs.Look.{local_kind}
use Rattle.scalar_runs.specs.Values.{Values}
use Rattle.value_terms.specs.declared.slots.Slot.{Slot}
use Rattle.value_terms.specs.Made.{Grown, IsBit, IsMade, IsTest, holds}
use Rattle.value_terms.specs.Slots.{AreHeld, AreSlots, IsSlot, SlotIs, slot_width}
use Rattle.scalar_terms.specs.declared.ways.Way.{Way}
use Rattle.scalar_terms.specs.Picks.{ArePairs, ArePicked, EachPicked, IsMerged, IsPair, IsPicked}
use Rattle.scalar_terms.specs.Ways.{IsWay}
use Rattle.value_terms.proofs.MadeLaws.{bit_kept, grown_same, grown_trans, holds_kept}
use Rattle.value_terms.proofs.RvalueLaws.{held_kept, inside_kept, slots_kept}

-- a choice, by its test
choice_first : (old new : List Term) (test a b id : ℕ) (inputs : ℕ → ℕ) → IsMade old new id (width_of old a) (λ ns. cond (holds old ns test) (value old ns a) (value old ns b)) → holds old inputs test ≡ true → value new inputs id ≡ value old inputs a
choice_first old new test a b id inputs made h = made.value_is inputs ∙ ap (λ t. cond t (value old inputs a) (value old inputs b)) h

choice_second : (old new : List Term) (test a b id : ℕ) (inputs : ℕ → ℕ) → IsMade old new id (width_of old a) (λ ns. cond (holds old ns test) (value old ns a) (value old ns b)) → holds old inputs test ≡ false → value new inputs id ≡ value old inputs b
choice_second old new test a b id inputs made h = made.value_is inputs ∙ ap (λ t. cond t (value old inputs a) (value old inputs b)) h

pub picked_made : (old mid new : List Term) (test : ℕ) (a b s : Slot) → IsBit old test → IsPair old a b
    → IsMade old mid s.set.0 (width_of old a.set.0) (λ inputs. cond (holds old inputs test) (value old inputs a.set.0) (value old inputs b.set.0))
    → IsMade mid new s.word.0 (width_of mid a.word.0) (λ inputs. cond (holds mid inputs test) (value mid inputs a.word.0) (value mid inputs b.word.0)) → IsPicked new test a b s
picked_made old mid new test a b s bit pair set word =
    let first : Keeps old mid = set.grown.keeps in
    let second : Keeps mid new = word.grown.keeps in
    let all : Keeps old new = (grown_trans old mid new set.grown word.grown).keeps in
    record {
      set = bit_kept mid new s.set.0 second (record { inside = set.inside; width_is = set.width_is ∙ pair.a_set.width_is });
      inside = word.inside;
      width_is = word.width_is ∙ first.widths_kept a.word.0 pair.a_inside ∙ sym (all.widths_kept a.word.0 pair.a_inside);
      first_set = λ inputs h. ap (λ w. w.value == 1) (second.values_kept inputs s.set.0 set.inside ∙ choice_first old mid test a.set.0 b.set.0 s.set.0 inputs set (sym (holds_kept old new inputs test all bit.inside) ∙ h) ∙ sym (all.values_kept inputs a.set.0 pair.a_set.inside));
      first_word = λ inputs h. choice_first mid new test a.word.0 b.word.0 s.word.0 inputs word (holds_kept old mid inputs test first bit.inside ∙ sym (holds_kept old new inputs test all bit.inside) ∙ h) ∙ first.values_kept inputs a.word.0 pair.a_inside ∙ sym (all.values_kept inputs a.word.0 pair.a_inside);
      second_set = λ inputs h. ap (λ w. w.value == 1) (second.values_kept inputs s.set.0 set.inside ∙ choice_second old mid test a.set.0 b.set.0 s.set.0 inputs set (sym (holds_kept old new inputs test all bit.inside) ∙ h) ∙ sym (all.values_kept inputs b.set.0 pair.b_set.inside));
      second_word = λ inputs h. choice_second mid new test a.word.0 b.word.0 s.word.0 inputs word (holds_kept old mid inputs test first bit.inside ∙ sym (holds_kept old new inputs test all bit.inside) ∙ h) ∙ first.values_kept inputs b.word.0 pair.b_inside ∙ sym (all.values_kept inputs b.word.0 pair.b_inside);
    }

-- a slot that was picked, by later terms
picked_kept : (old new : List Term) (test : ℕ) (a b s : Slot) → Keeps old new → test < length old → IsPair old a b → IsPicked old test a b s → IsPicked new test a b s
picked_kept old new test a b s keeps ht pair is = record {
  set = bit_kept old new s.set.0 keeps is.set;
  inside = inside_kept old new s.word.0 keeps is.inside;
  width_is = keeps.widths_kept s.word.0 is.inside ∙ is.width_is ∙ sym (keeps.widths_kept a.word.0 pair.a_inside);
  first_set = λ inputs h. holds_kept old new inputs s.set.0 keeps is.set.inside ∙ is.first_set inputs (sym (holds_kept old new inputs test keeps ht) ∙ h) ∙ sym (holds_kept old new inputs a.set.0 keeps pair.a_set.inside);
  first_word = λ inputs h. keeps.values_kept inputs s.word.0 is.inside ∙ is.first_word inputs (sym (holds_kept old new inputs test keeps ht) ∙ h) ∙ sym (keeps.values_kept inputs a.word.0 pair.a_inside);
  second_set = λ inputs h. holds_kept old new inputs s.set.0 keeps is.set.inside ∙ is.second_set inputs (sym (holds_kept old new inputs test keeps ht) ∙ h) ∙ sym (holds_kept old new inputs b.set.0 keeps pair.b_set.inside);
  second_word = λ inputs h. keeps.values_kept inputs s.word.0 is.inside ∙ is.second_word inputs (sym (holds_kept old new inputs test keeps ht) ∙ h) ∙ sym (keeps.values_kept inputs b.word.0 pair.b_inside);
}

pub pair_kept : (old new : List Term) (a b : Slot) → Keeps old new → IsPair old a b → IsPair new a b
pair_kept old new a b keeps pair = record {
  a_set = bit_kept old new a.set.0 keeps pair.a_set;
  b_set = bit_kept old new b.set.0 keeps pair.b_set;
  a_inside = inside_kept old new a.word.0 keeps pair.a_inside;
  b_inside = inside_kept old new b.word.0 keeps pair.b_inside;
  widths = keeps.widths_kept b.word.0 pair.b_inside ∙ pair.widths ∙ sym (keeps.widths_kept a.word.0 pair.a_inside);
}

pub pairs_kept : (old new : List Term) (xs ys : List Slot) → Keeps old new → ArePairs old xs ys → ArePairs new xs ys
pairs_kept old new [] [] keeps are = tt
pairs_kept old new (a ∷ xs) (b ∷ ys) keeps are = (pair_kept old new a b keeps are.0, pairs_kept old new xs ys keeps are.1)
pairs_kept old new [] (b ∷ ys) keeps are = are
pairs_kept old new (a ∷ xs) [] keeps are = are

pub picked_none : (terms : List Term) (test : ℕ) (before : List Slot) → ArePicked terms terms test [] [] before before
picked_none terms test before = record { grown = grown_same terms; more = []; all = sym (append-nil before); each = tt }

pub picked_more : (old mid new : List Term) (test : ℕ) (a b s : Slot) (xs ys before next behind : List Slot) → test < length mid → Grown old mid → IsPair mid a b → IsPicked mid test a b s → next ≡ before ++ s ∷ [] → ArePicked mid new test xs ys next behind
    → ArePicked old new test (a ∷ xs) (b ∷ ys) before behind
picked_more old mid new test a b s xs ys before next behind ht grown pair is e rest = record {
  grown = grown_trans old mid new grown rest.grown;
  more = s ∷ rest.more;
  all = rest.all ∙ ap (λ l. l ++ rest.more) e ∙ append_assoc before (s ∷ []) rest.more;
  each = (picked_kept mid new test a b s rest.grown.keeps ht pair is, rest.each);
}

-- slots of two lists for the same locals
pub pairs_of : (terms : List Term) (widths : ℕ → ℕ) (xs ys : List Slot) → length ys ≡ length xs → ((n : ℕ) (s : Slot) → slice_get xs n ≡ Some s → IsSlot terms (widths n) s) → ((n : ℕ) (s : Slot) → slice_get ys n ≡ Some s → IsSlot terms (widths n) s) → ArePairs terms xs ys
pairs_of terms widths [] [] e ha hb = tt
pairs_of terms widths (a ∷ xs) (b ∷ ys) e ha hb =
    let x : IsSlot terms (widths 0) a = ha 0 a refl in
    let y : IsSlot terms (widths 0) b = hb 0 b refl in (
      record { a_set = x.set; b_set = y.set; a_inside = x.inside; b_inside = y.inside; widths = y.width_is ∙ sym x.width_is },
      pairs_of terms (λ n. widths (suc n)) xs ys (same_rest xs ys e) (λ n s at. ha (suc n) s at) (λ n s at. hb (suc n) s at),
    )
  where
    same_rest : (xs ys : List Slot) → suc (length ys) ≡ suc (length xs) → length ys ≡ length xs
    same_rest xs ys e = omega arith
pairs_of terms widths [] (b ∷ ys) e ha hb = absurd (omega arith)
pairs_of terms widths (a ∷ xs) [] e ha hb = absurd (omega arith)

pub pairs_from : (f : Function) (terms : List Term) (xs ys : List Slot) → AreSlots f terms xs → AreSlots f terms ys → ArePairs terms xs ys
pairs_from f terms xs ys are bre = pairs_of terms (λ n. slot_width (local_kind f n)) xs ys (bre.one_each ∙ sym are.one_each) are.each bre.each

-- a slot among those that were picked, with the two of its place
pub record PickedAt (terms : List Term) (test : ℕ) (xs ys : List Slot) (n : ℕ) (s : Slot) : Type 0 where
  pub a : Slot
  pub b : Slot
  pub a_at : slice_get xs n ≡ Some a
  pub b_at : slice_get ys n ≡ Some b
  pub is : IsPicked terms test a b s

picked_at : (terms : List Term) (test : ℕ) (xs ys ss : List Slot) (n : ℕ) (s : Slot) → EachPicked terms test xs ys ss → slice_get ss n ≡ Some s → PickedAt terms test xs ys n s
picked_at terms test (a ∷ xs) (b ∷ ys) (x ∷ ss) zero s each at = record { a = a; b = b; a_at = refl; b_at = refl; is = subst (IsPicked terms test a b) (same_Some x s at) each.0 }
picked_at terms test (a ∷ xs) (b ∷ ys) (x ∷ ss) (suc n) s each at =
    let rest = picked_at terms test xs ys ss n s each.1 at in
    record { a = rest.a; b = rest.b; a_at = rest.a_at; b_at = rest.b_at; is = rest.is }
picked_at terms test [] [] [] n s each at = cc
picked_at terms test _ _ _ n s each at = absurd each

picked_length : (terms : List Term) (test : ℕ) (xs ys ss : List Slot) → EachPicked terms test xs ys ss → (length ss ≡ length xs) × (length ss ≡ length ys)
picked_length terms test [] [] [] each = (refl, refl)
picked_length terms test (a ∷ xs) (b ∷ ys) (x ∷ ss) each = let rest = picked_length terms test xs ys ss each.1 in (ap suc rest.0, ap suc rest.1)
picked_length terms test _ _ _ each = absurd each

-- a slot that says what another says
slot_as : (terms : List Term) (inputs : ℕ → ℕ) (s a : Slot) (held : Option Word) → holds terms inputs s.set.0 ≡ holds terms inputs a.set.0 → value terms inputs s.word.0 ≡ value terms inputs a.word.0 → SlotIs terms inputs a held → SlotIs terms inputs s held
slot_as terms inputs s a (Some w) set word is = (set ∙ is.0, word ∙ is.1)
slot_as terms inputs s a None set word is = set ∙ is

pub merged_slots : (f : Function) (terms : List Term) (test : ℕ) (xs ys ss : List Slot) → EachPicked terms test xs ys ss → AreSlots f terms xs → AreSlots f terms ss
merged_slots f terms test xs ys ss each are = record {
  one_each = (picked_length terms test xs ys ss each).0 ∙ are.one_each;
  each = λ n s at.
      let here = picked_at terms test xs ys ss n s each at in
      record { set = here.is.set; inside = here.is.inside; width_is = here.is.width_is ∙ (are.each n here.a here.a_at).width_is };
}

pub held_first : (terms : List Term) (inputs : ℕ → ℕ) (test : ℕ) (xs ys ss : List Slot) (v : Values) → EachPicked terms test xs ys ss → holds terms inputs test ≡ true → AreHeld terms inputs xs v → AreHeld terms inputs ss v
held_first terms inputs test xs ys ss v each h held = record {
  one_each = held.one_each ∙ sym (picked_length terms test xs ys ss each).0;
  each = λ n s at.
      let here = picked_at terms test xs ys ss n s each at in
      slot_as terms inputs s here.a (slice_index_or v n None) (here.is.first_set inputs h) (here.is.first_word inputs h) (held.each n here.a here.a_at);
}

pub held_second : (terms : List Term) (inputs : ℕ → ℕ) (test : ℕ) (xs ys ss : List Slot) (v : Values) → EachPicked terms test xs ys ss → holds terms inputs test ≡ false → AreHeld terms inputs ys v → AreHeld terms inputs ss v
held_second terms inputs test xs ys ss v each h held = record {
  one_each = held.one_each ∙ sym (picked_length terms test xs ys ss each).1;
  each = λ n s at.
      let here = picked_at terms test xs ys ss n s each at in
      slot_as terms inputs s here.b (slice_index_or v n None) (here.is.second_set inputs h) (here.is.second_word inputs h) (held.each n here.b here.b_at);
}

pub merged_made : (f : Function) (old mid new : List Term) (guard : ℕ) (slots : List Slot) (way merged : Way) → IsBit old guard → AreSlots f old slots → IsWay f old way
    → IsTest old mid merged.guard.0 (λ inputs. holds old inputs guard || holds old inputs way.guard.0) → ArePicked mid new guard slots way.slots.items [] merged.slots.items → IsMerged f old new guard slots way merged
merged_made f old mid new guard slots way merged bit are is test picked =
    let all : Grown old new = grown_trans old mid new test.grown picked.grown in
    let each : EachPicked new guard slots way.slots.items merged.slots.items = subst (λ ss. EachPicked new guard slots way.slots.items ss) (sym picked.all) picked.each in
    let same : (inputs : ℕ → ℕ) → holds new inputs merged.guard.0 ≡ (holds old inputs guard || holds old inputs way.guard.0) = λ inputs. holds_kept mid new inputs merged.guard.0 picked.grown.keeps test.bit.inside ∙ test.holds_is inputs in
    record {
      grown = all;
      is_way = record { guard = bit_kept mid new merged.guard.0 picked.grown.keeps test.bit; slots = merged_slots f new guard slots way.slots.items merged.slots.items each (slots_kept f old new slots all.keeps are) };
      first = λ inputs v h held. (
        same inputs ∙ ap (λ t. t || holds old inputs way.guard.0) h,
        held_first new inputs guard slots way.slots.items merged.slots.items v each (holds_kept old new inputs guard all.keeps bit.inside ∙ h) (held_kept old new inputs f slots v all.keeps are held),
      );
      second = λ inputs v h g held. (
        same inputs ∙ ap (λ t. t || holds old inputs way.guard.0) h ∙ g,
        held_second new inputs guard slots way.slots.items merged.slots.items v each (holds_kept old new inputs guard all.keeps bit.inside ∙ h) (held_kept old new inputs f way.slots.items v all.keeps is.slots held),
      );
      neither = λ inputs h g. same inputs ∙ ap (λ t. t || holds old inputs way.guard.0) h ∙ g;
    }

-- the rest of a list behind its first item, as a slice
abbrev pub rest_of : {X : Type 0} → List X → List X
rest_of xs = take (length xs - 1) (drop 1 xs)

pub rest_cons : {X : Type 0} → (x : X) (xs : List X) → rest_of (x ∷ xs) ≡ xs
rest_cons x xs = ap (λ n. take n xs) (one_less x xs) ∙ take-length xs where
  one_less : {X : Type 0} → (x : X) (xs : List X) → length (x ∷ xs) - 1 ≡ length xs
  one_less x xs = omega arith

pub rest_shorter : {X : Type 0} → (xs : List X) → 1 ≤ length xs → length (rest_of xs) < length xs
rest_shorter [] h = omega arith
rest_shorter (x ∷ xs) h = subst (λ l. length l < length (x ∷ xs)) (sym (rest_cons x xs)) (shorter x xs) where
  shorter : {X : Type 0} → (x : X) (xs : List X) → length xs < length (x ∷ xs)
  shorter x xs = omega arith

pub rest_pairs : (terms : List Term) (xs ys : List Slot) → 1 ≤ length xs → 1 ≤ length ys → ArePairs terms xs ys → ArePairs terms (rest_of xs) (rest_of ys)
rest_pairs terms (x ∷ xs) (y ∷ ys) hx hy are = subst (λ l. ArePairs terms l (rest_of (y ∷ ys))) (sym (rest_cons x xs)) (subst (λ l. ArePairs terms xs l) (sym (rest_cons y ys)) are.1)
rest_pairs terms [] ys hx hy are = absurd (omega arith)
rest_pairs terms (x ∷ xs) [] hx hy are = absurd (omega arith)

pub picked_on : (old mid new : List Term) (test : ℕ) (xs ys : List Slot) (d s : Slot) (before next behind : List Slot) → 1 ≤ length xs → 1 ≤ length ys → test < length mid → Grown old mid → ArePairs old xs ys
    → IsPicked mid test (get_or xs 0 d) (get_or ys 0 d) s → next ≡ before ++ s ∷ [] → ArePicked mid new test (rest_of xs) (rest_of ys) next behind → ArePicked old new test xs ys before behind
picked_on old mid new test (x ∷ xs) (y ∷ ys) d s before next behind hx hy ht grown are is e rest =
    picked_more old mid new test x y s xs ys before next behind ht grown (pair_kept old mid x y grown.keeps are.0) is e
    (subst (λ l. ArePicked mid new test l ys next behind) (rest_cons x xs) (subst (λ l. ArePicked mid new test (rest_of (x ∷ xs)) l next behind) (rest_cons y ys) rest))
picked_on old mid new test [] ys d s before next behind hx hy ht grown are is e rest = absurd (omega arith)
picked_on old mid new test (x ∷ xs) [] d s before next behind hx hy ht grown are is e rest = absurd (omega arith)

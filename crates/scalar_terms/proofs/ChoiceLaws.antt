-- What is known behind a choice.
use Rattle.std.proofs.Common.{◌≡◌, ◌≢◌, ◌↔◌, ℕ, ◌<◌, ◌≤◌, ◌==◌, ◌&&◌, ◌||◌, not, Bool, true, false, cond, List, Option, Some, length, subst, sym, ap, ◌∙◌, refl, arith}
use Rattle.std.specs.Prelude.{nat_lt, slice_set}
use Rattle.std.proofs.lemmas.Bool.{eq-eqb, false≢true, lt-ltb, ltb-true, ltb-false, not-true}
use Rattle.word_bits.specs.declared.word.Word.{Word}
use Rattle.word_bits.specs.Words.{IsWord, word}
use Rattle.mir_ir.specs.declared.places.PlaceExpr.{PlaceExpr}
use Rattle.mir_ir.specs.declared.tree.Function.{Function}
use Rattle.sym_terms.specs.declared.term.Term.{Term}
use Rattle.sym_terms.specs.declared.term.Term.TheVariants.{Apply, Constant}
use Rattle.sym_terms.specs.declared.term.TermId.{TermId}
use Rattle.sym_terms.specs.declared.term.TermOp.TheVariants as op
use Rattle.sym_terms.specs.Terms.{Fits, IsInserted, IsValue, Keeps, value, width_of}
use Rattle.sym_terms.proofs.Grown.{Keeps-trans}
use Rattle.scalar_runs.specs.declared.breach.Breach.{Breach}
use Rattle.scalar_runs.specs.declared.kinds.ValueKind.{ValueKind}
use Rattle.scalar_runs.specs.declared.kinds.ValueKind.TheVariants as kind
use Rattle.scalar_runs.specs.Kinds.{is_scalar_value, is_value, is_word, width_of_kind}
use Rattle.scalar_runs.specs.Look.{local_kind}
use Rattle.scalar_runs.specs.Run.{Chooses, stored}
use Rattle.scalar_form.specs.Typing.{agree, place_kind}
use Rattle.scalar_runs.specs.Values.{Values}
use Rattle.scalar_runs.proofs.OperandLaws.{both_true, test_of_word}
use Rattle.value_terms.specs.declared.slots.Slot.{Slot}
use Rattle.value_terms.specs.Made.{IsBit, IsFree, IsInput, IsTest, holds}
use Rattle.value_terms.specs.Slots.{AreHeld, AreSlots, IsSlot, slot_width}
use Rattle.value_terms.proofs.MadeLaws.{bit_kept, bit_of_truth, grown_trans, holds_kept, made_of, test_later, test_of}
use Rattle.value_terms.proofs.RvalueLaws.{held_kept, inside_kept, slots_kept}
use Rattle.scalar_terms.specs.declared.failures.Failure.{Failure}
use Rattle.scalar_terms.specs.declared.ways.Way.{Way}
use Rattle.scalar_terms.specs.Joins.{AreQuiet, AreWays, IsJoined, WaysAre, WaysIn}
use Rattle.scalar_terms.specs.Places.{Before, Done, Spot, Here, There, Wanting, chosen_word, stepped_place}
use Rattle.scalar_terms.specs.Tests.{IsLed}
use Rattle.scalar_terms.specs.Ways.{AreFailures, IsFaultAt, IsWay, PointIs, Tells, ToldAt, ToldIn}
use Rattle.scalar_terms.proofs.StepLaws.{agree_first, agree_width, failures_kept, held_set, place_is, slots_set}
use Rattle.scalar_terms.proofs.TestLaws.{quiet_kept, told_kept, ways_kept}

pub below_made : (old mid new : List Term) (number bound : TermId) (id : ℕ) (w : Word) → number.0 < length old → IsInserted old mid (Constant w) bound.0 → IsInserted mid new (Apply op.LessUnsigned number bound) id
    → IsTest old new id (λ inputs. nat_lt (value old inputs number.0).value w.value)
below_made old mid new number bound id w inside first second =
    let known = made_of old mid (Constant w) bound.0 (λ n k. tt) first in
    let test = made_of mid new (Apply op.LessUnsigned number bound) id (λ n k. tt) second in
    test_later old mid new id _ _ known.grown (test_of mid new id _ (λ inputs. nat_lt (value mid inputs number.0).value (value mid inputs bound.0).value) test (λ inputs. bit_of_truth _))
    (λ inputs. ap (λ x. nat_lt x.value (value mid inputs bound.0).value) (known.grown.keeps.values_kept inputs number.0 inside) ∙ ap (λ y. nat_lt (value old inputs number.0).value y.value) (known.value_is inputs))

pub less_fits : (old mid : List Term) (number bound : TermId) (w : Word) → number.0 < length old → width_of old number.0 ≡ 32 → w.width ≡ 32 → IsInserted old mid (Constant w) bound.0 → Fits mid (Apply op.LessUnsigned number bound)
less_fits old mid number bound w inside width same inserted = record {
  fitting = (inside_kept old mid number.0 inserted.keeps inside, λ binary. inserted.inside, λ shift. absurd (false≢true shift), λ binary plain. inserted.width_is ∙ same ∙ sym (inserted.keeps.widths_kept number.0 inside ∙ width));
  input = tt;
}

-- two tests that hold alike are one
same_tests : (a b : Bool) → (a ≡ true → b ≡ true) → (b ≡ true → a ≡ true) → a ≡ b
same_tests true b there back = sym (there refl)
same_tests false true there back = back refl
same_tests false false there back = refl

-- 57343 is the last surrogate
above_surrogates : (n : ℕ) → not (nat_lt n 57344) ≡ nat_lt 57343 n
above_surrogates n = same_tests (not (nat_lt n 57344)) (nat_lt 57343 n) there back where
  there : not (nat_lt n 57344) ≡ true → nat_lt 57343 n ≡ true
  there h =
      let above : 57344 ≤ n = ltb-false n 57344 (not-true (nat_lt n 57344) h) in
      lt-ltb 57343 n (omega arith)

  back : nat_lt 57343 n ≡ true → not (nat_lt n 57344) ≡ true
  back h =
      let above : 57343 < n = ltb-true 57343 n h in
      turned (nat_lt n 57344) refl above
    where
      turned : (t : Bool) → nat_lt n 57344 ≡ t → 57343 < n → not t ≡ true
      turned false e above = refl
      turned true e above =
          let low : n < 57344 = ltb-true n 57344 e in
          absurd (omega arith)

pub scalar_made : (old a b c d new : List Term) (number low not_high inside high id : ℕ) → number < length old → IsTest old a low (λ inputs. nat_lt (value old inputs number).value 55296)
    → IsTest a b not_high (λ inputs. nat_lt (value a inputs number).value 57344) → IsTest b c inside (λ inputs. nat_lt (value b inputs number).value 1114112)
    → IsTest c d high (λ inputs. holds c inputs inside && not (holds c inputs not_high)) → IsTest d new id (λ inputs. holds d inputs low || holds d inputs high)
    → IsTest old new id (λ inputs. is_scalar_value (value old inputs number).value)
scalar_made old a b c d new number low not_high inside high id here is_low is_not_high is_inside is_high is =
    let oa = is_low.grown in
    let ob = grown_trans old a b oa is_not_high.grown in
    let ac = grown_trans a b c is_not_high.grown is_inside.grown in
    let ad = grown_trans a c d ac is_high.grown in
    let od = grown_trans old a d oa ad in
    test_later old d new id _ _ od is (λ inputs.
    ap (λ x. x || holds d inputs high) (holds_kept a d inputs low ad.keeps is_low.bit.inside ∙ is_low.holds_is inputs)
    ∙ ap (λ y. nat_lt (value old inputs number).value 55296 || y) (is_high.holds_is inputs
    ∙ ap (λ y. y && not (holds c inputs not_high)) (is_inside.holds_is inputs ∙ ap (λ w. nat_lt w.value 1114112) (ob.keeps.values_kept inputs number here))
    ∙ ap (λ y. nat_lt (value old inputs number).value 1114112 && not y) (holds_kept b c inputs not_high is_inside.grown.keeps is_not_high.bit.inside ∙ is_not_high.holds_is inputs ∙ ap (λ w. nat_lt w.value 57344) (oa.keeps.values_kept inputs number here))
    ∙ ap (λ y. nat_lt (value old inputs number).value 1114112 && y) (above_surrogates (value old inputs number).value)
    ∙ swapped (nat_lt (value old inputs number).value 1114112) (nat_lt 57343 (value old inputs number).value)))
  where
    swapped : (x y : Bool) → (x && y) ≡ (y && x)
    swapped true true = refl
    swapped true false = refl
    swapped false true = refl
    swapped false false = refl

char_value : (w : Word) → IsWord w → w.width ≡ 32 → is_value kind.Char w ≡ is_scalar_value w.value
char_value w is width = ap (λ x. x && is_word w && is_scalar_value w.value) (eq-eqb w.width 32 width) ∙ ap (λ x. x && is_scalar_value w.value) (test_of_word w is)

-- each pattern of bits is a value
abbrev pub IsBits : ValueKind → Type 0
IsBits k = (w : Word) → IsWord w → w.width ≡ width_of_kind k → is_value k w ≡ true

bits_of : (w : Word) (n : ℕ) → IsWord w → w.width ≡ n → (w.width == n && is_word w) ≡ true
bits_of w n is width = both_true (w.width == n) (is_word w) (eq-eqb w.width n width) (test_of_word w is)

pub char_made : (old new : List Term) (word id : ℕ) (k : ValueKind) → k ≡ kind.Char → width_of old word ≡ width_of_kind k → ((inputs : ℕ → ℕ) → IsValue old inputs word) → IsTest old new id (λ inputs. is_scalar_value (value old inputs word).value)
    → IsTest old new id (λ inputs. is_value k (value old inputs word))
char_made old new word id k e width values test = record {
  grown = test.grown;
  bit = test.bit;
  holds_is = λ inputs. test.holds_is inputs ∙ sym (subst (λ x. is_value x (value old inputs word) ≡ is_scalar_value (value old inputs word).value) (sym e)
      (char_value (value old inputs word) (values inputs).is_word ((values inputs).width_is ∙ width ∙ ap width_of_kind e)));
}

pub bits_made : (old new : List Term) (word id : ℕ) (k : ValueKind) → IsBits k → width_of old word ≡ width_of_kind k → ((inputs : ℕ → ℕ) → IsValue old inputs word) → IsTest old new id (λ inputs. true)
    → IsTest old new id (λ inputs. is_value k (value old inputs word))
bits_made old new word id k bits width values test = record {
  grown = test.grown;
  bit = test.bit;
  holds_is = λ inputs. test.holds_is inputs ∙ sym (bits (value old inputs word) (values inputs).is_word ((values inputs).width_is ∙ width));
}

pub plain_bits : (k : ValueKind) → (k ≡ kind.Char → ⊥) → (w : Word) → IsWord w → w.width ≡ width_of_kind k → is_value k w ≡ true
plain_bits kind.Bool other w is width = bits_of w 1 is width
plain_bits kind.Char other w is width = absurd (other refl)
plain_bits (kind.Int i) other w is width = bits_of w (width_of_kind (kind.Int i)) is width
plain_bits kind.Unit other w is width = bits_of w 1 is width
plain_bits kind.Never other w is width = bits_of w 1 is width

-- behind a choice, at a point that the run passes
chosen_here : (f : Function) (old mid new : List Term) (inputs : ℕ → ℕ) (fs : List Failure) (ways joined : List (Option Way)) (b i target p guard : ℕ) (k : ValueKind) (slots : List Slot) (slot : Slot) (v : Values)
    → Keeps old mid → AreFailures old fs → AreWays f old ways → IsJoined f mid new ways joined target guard (slice_set slots p slot)
    → AreQuiet old inputs ways → ((z : Breach) → Tells old inputs fs z ↔ ⊥) → AreHeld mid inputs slots v → holds mid inputs slot.set.0 ≡ true → value mid inputs slot.word.0 ≡ chosen_word inputs b k
    → (x : Bool) → is_value k (chosen_word inputs b k) ≡ x → holds mid inputs guard ≡ x
    → WaysAre new inputs joined (cond x (Before target (stored v p (chosen_word inputs b k))) (Done Wanting)) × ToldAt new inputs fs (cond x (Before target (stored v p (chosen_word inputs b k))) (Done Wanting))
chosen_here f old mid new inputs fs ways joined b i target p guard k slots slot v keeps are ways_are join quiet told held set word true e g =
    let longer : Keeps old new = Keeps-trans old mid new keeps join.grown.keeps in (
      join.comes inputs (stored v p (chosen_word inputs b k)) g (quiet_kept f old mid inputs ways keeps ways_are quiet) (held_set mid inputs slots v p slot (chosen_word inputs b k) held (set, word)),
      told_kept old new inputs fs (λ z. ⊥) longer are told,
    )
chosen_here f old mid new inputs fs ways joined b i target p guard k slots slot v keeps are ways_are join quiet told held set word false e g =
    let longer : Keeps old new = Keeps-trans old mid new keeps join.grown.keeps in
    (join.stays inputs (Done Wanting) g (quiet_kept f old mid inputs ways keeps ways_are quiet), told_kept old new inputs fs (λ z. ⊥) longer are told)

-- the slot of a choice
choice_slot : (f : Function) (terms : List Term) (place : PlaceExpr) (k : ValueKind) (slot : Slot) → agree (place_kind f place) (Some k) ≡ true → IsBit terms slot.set.0 → slot.word.0 < length terms → width_of terms slot.word.0 ≡ width_of_kind k
    → IsSlot terms (slot_width (local_kind f place.local.0)) slot
choice_slot f terms place k slot typed set inside width = record {
  set = set;
  inside = inside;
  width_is = width ∙ agree_width (place_kind f place) (Some k) typed ∙ ap slot_width (place_is f place (agree_first (place_kind f place) (Some k) typed));
}

-- what is there once the input came
pub record IsChosen (f : Function) (old new : List Term) (b : ℕ) (k : ValueKind) (way : Way) (slot : Slot) (guard : ℕ) : Type 0 where
  pub keeps : Keeps old new
  pub free : (number : ℕ) → number ≢ b → IsFree old number → IsFree new number
  pub passes : IsBit new guard
  pub set : IsBit new slot.set.0
  pub inside : slot.word.0 < length new
  pub width_is : width_of new slot.word.0 ≡ width_of_kind k
  pub goes : (inputs : ℕ → ℕ) → holds new inputs guard ≡ (holds old inputs way.guard.0 && is_value k (chosen_word inputs b k))
  pub set_is : (inputs : ℕ → ℕ) → holds new inputs slot.set.0 ≡ true
  pub word_is : (inputs : ℕ → ℕ) → value new inputs slot.word.0 ≡ chosen_word inputs b k

pub chosen_made : (f : Function) (old t u v new : List Term) (b : ℕ) (k : ValueKind) (way : Way) (slot : Slot) (valid guard : ℕ) → IsBit old way.guard.0 → IsInput old t slot.word.0 b (width_of_kind k)
    → IsTest t u valid (λ inputs. is_value k (value t inputs slot.word.0)) → IsTest u v guard (λ inputs. holds u inputs way.guard.0 && holds u inputs valid) → IsTest v new slot.set.0 (λ inputs. true)
    → IsChosen f old new b k way slot guard
chosen_made f old t u v new b k way slot valid guard bit is_input is_valid is_guard is_set =
    let tu = is_valid.grown in
    let tv = grown_trans t u v tu is_guard.grown in
    let tn = grown_trans t v new tv is_set.grown in
    record {
      keeps = Keeps-trans old t new is_input.keeps tn.keeps;
      free = λ number apart free. tn.free number (is_input.free number apart free);
      passes = bit_kept v new guard is_set.grown.keeps is_guard.bit;
      set = is_set.bit;
      inside = inside_kept t new slot.word.0 tn.keeps is_input.inside;
      width_is = tn.keeps.widths_kept slot.word.0 is_input.inside ∙ is_input.width_is;
      goes = λ inputs. holds_kept v new inputs guard is_set.grown.keeps is_guard.bit.inside ∙ is_guard.holds_is inputs
          ∙ ap (λ x. x && holds u inputs valid) (holds_kept old u inputs way.guard.0 (Keeps-trans old t u is_input.keeps tu.keeps) bit.inside)
          ∙ ap (λ x. holds old inputs way.guard.0 && x) (is_valid.holds_is inputs ∙ ap (is_value k) (is_input.value_is inputs));
      set_is = is_set.holds_is;
      word_is = λ inputs. tn.keeps.values_kept inputs slot.word.0 is_input.inside ∙ is_input.value_is inputs;
    }

pub choice_slots : (f : Function) (old new : List Term) (b : ℕ) (k : ValueKind) (way : Way) (slot : Slot) (guard : ℕ) (place : PlaceExpr) → IsWay f old way → agree (place_kind f place) (Some k) ≡ true → IsChosen f old new b k way slot guard
    → AreSlots f new (slice_set way.slots.items place.local.0 slot)
choice_slots f old new b k way slot guard place is typed chosen =
    slots_set f new way.slots.items place.local.0 slot (slots_kept f old new way.slots.items chosen.keeps is.slots) (choice_slot f new place k slot typed chosen.set chosen.inside chosen.width_is)

pub choice_led : (f : Function) (old mid new : List Term) (was : Way) (ways joined : List (Option Way)) (fs : List Failure) (b i target guard : ℕ) (k : ValueKind) (slot : Slot) (place : PlaceExpr)
    → IsWay f old was → AreWays f old ways → AreFailures old fs → IsChosen f old mid b k was slot guard → IsJoined f mid new ways joined target guard (slice_set was.slots.items place.local.0 slot)
    → IsLed f old new was ways joined fs fs b i (λ s. Chooses k place.local.0 target)
choice_led f old mid new was ways joined fs b i target guard k slot place way ways_are are chosen join = record {
  keeps = Keeps-trans old mid new chosen.keeps join.grown.keeps;
  free = λ number apart free. join.grown.free number (chosen.free number apart free);
  one_each = join.one_each;
  are = join.are;
  failures = failures_kept old new fs (Keeps-trans old mid new chosen.keeps join.grown.keeps) are;
  is = λ inputs spot point come told. by_spot f old mid new was ways joined fs b i target guard k slot place way ways_are are chosen join inputs spot point come told;
} where
  by_spot : (f : Function) (old mid new : List Term) (was : Way) (ways joined : List (Option Way)) (fs : List Failure) (b i target guard : ℕ) (k : ValueKind) (slot : Slot) (place : PlaceExpr)
      → IsWay f old was → AreWays f old ways → AreFailures old fs → IsChosen f old mid b k was slot guard → IsJoined f mid new ways joined target guard (slice_set was.slots.items place.local.0 slot)
      → (inputs : ℕ → ℕ) (spot : Spot) → PointIs old inputs was spot → WaysIn old inputs ways spot → ToldIn old inputs fs spot
      → WaysAre new inputs joined (stepped_place inputs b i (λ s. Chooses k place.local.0 target) spot) × ToldAt new inputs fs (stepped_place inputs b i (λ s. Chooses k place.local.0 target) spot)
  by_spot f old mid new was ways joined fs b i target guard k slot place way ways_are are chosen join inputs (Here v) point come told =
      chosen_here f old mid new inputs fs ways joined b i target place.local.0 guard k was.slots.items slot v chosen.keeps are ways_are join come told
      (held_kept old mid inputs f was.slots.items v chosen.keeps way.slots point.1) (chosen.set_is inputs) (chosen.word_is inputs)
      (is_value k (chosen_word inputs b k)) refl (chosen.goes inputs ∙ ap (λ x. x && is_value k (chosen_word inputs b k)) point.0)
  by_spot f old mid new was ways joined fs b i target guard k slot place way ways_are are chosen join inputs (There p) point come told = (
    join.stays inputs p (chosen.goes inputs ∙ ap (λ x. x && is_value k (chosen_word inputs b k)) point) (ways_kept f old mid inputs ways p chosen.keeps ways_are come),
    told_kept old new inputs fs (IsFaultAt p) (Keeps-trans old mid new chosen.keeps join.grown.keeps) are told,
  )

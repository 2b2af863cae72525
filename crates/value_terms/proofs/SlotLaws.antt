-- Reads of locals and constants.
use Rattle.std.proofs.Common.{◌≡◌, ℕ, zero, suc, ◌<◌, ◌==◌, ◌&&◌, ◌||◌, Bool, true, false, cond, List, [], ◌∷◌, length, Option, Some, None, find, subst, sym, ap, ◌∙◌, refl, arith}
use Rattle.std.specs.Prelude.{Result, Ok, Err, nat_lt, slice_get, slice_index_or, option_and_then}
use Rattle.std.proofs.lemmas.Bool.{eqb-true, ltb-true}
use Rattle.std.proofs.lemmas.Option.{none-some}
use Rattle.vk_core.specs.declared.check.CheckClass.{CheckClass}
use Rattle.word_bits.specs.declared.word.Word.{Word}
use Rattle.word_bits.specs.Words.{IsWord}
use Rattle.mir_ir.specs.declared.tree.Constant.{Constant}
use Rattle.mir_ir.specs.declared.tree.Constant.TheVariants as constant
use Rattle.mir_ir.specs.declared.tree.Function.{Function}
use Rattle.mir_ir.specs.declared.tree.Local.{Local}
use Rattle.mir_ir.specs.declared.tree.Operand.{Operand}
use Rattle.mir_ir.specs.Integers.{width_of as int_width}
use Rattle.sym_terms.specs.declared.term.Term.{Term}
use Rattle.sym_terms.specs.Terms.{value}
use Rattle.scalar_runs.specs.declared.kinds.ValueKind.{ValueKind}
use Rattle.scalar_runs.specs.declared.kinds.ValueKind.TheVariants as kind
use Rattle.scalar_runs.specs.Kinds.{has_bytes, is_scalar_value, is_word, kind_of, width_of_kind}
use Rattle.scalar_runs.specs.Look.{local_kind, locals_end}
use Rattle.scalar_runs.specs.Operators.{truth}
use Rattle.scalar_form.specs.Typing.{has_kind, is_constant, is_plain, operand_kind}
use Rattle.scalar_runs.specs.Values.{Values, held_value, kind_of_constant, kind_of_operand, no_bits, operand_value, read_as, read_local, word_of_constant}
use Rattle.scalar_runs.proofs.OperandLaws.{and_left, and_right, word_of_test}
use Rattle.value_terms.specs.declared.slots.Slot.{Slot}
use Rattle.value_terms.specs.Made.{IsMade, IsTest, holds}
use Rattle.value_terms.specs.Slots.{AreSlots, IsRead, IsSlot, ReadIs, SlotIs, slot_width}
use Rattle.value_terms.specs.Reads.{IsKnownSlot}
use Rattle.value_terms.proofs.MadeLaws.{bit_kept, grown_same, grown_trans, holds_kept}

pub known_slot : (old mid new : List Term) (w : Word) (slot : Slot) → IsTest old mid slot.set.0 (λ inputs. true) → IsMade mid new slot.word.0 w.width (λ inputs. w) → IsKnownSlot old new w slot
known_slot old mid new w slot set word = record {
  grown = grown_trans old mid new set.grown word.grown;
  kept = record { set = bit_kept mid new slot.set.0 word.grown.keeps set.bit; inside = word.inside; width_is = word.width_is };
  set_is = λ inputs. holds_kept mid new inputs slot.set.0 word.grown.keeps set.bit.inside ∙ set.holds_is inputs;
  word_is = word.value_is;
}

-- a local that is declared is below the end of the locals
below_end : (ls : List Local) (n : ℕ) (l : Local) → find (λ x. x.id.0 == n) ls ≡ Some l → n < locals_end ls
below_end [] n l e = absurd (none-some l e)
below_end (x ∷ xs) n l e =
    elim (x.id.0 == n) as (λ v. (x.id.0 == n) ≡ v → cond v (Some x) (find (λ y. y.id.0 == n) xs) ≡ Some l → n < locals_end (x ∷ xs)) [
      | true ↦ λ same h. (let number : x.id.0 ≡ n = eqb-true x.id.0 n same in omega arith)
      | false ↦ λ other h. (let below : n < locals_end xs = below_end xs n l h in omega arith)
    ] refl e

found_kind : (ls : List Local) (n : ℕ) (found : Option Local) → find (λ x. x.id.0 == n) ls ≡ found → has_kind (option_and_then (λ (l : Local). kind_of l.ty) found) ≡ true → n < locals_end ls
found_kind ls n None e h = cc
found_kind ls n (Some l) e h = below_end ls n l e

pub kind_below : (f : Function) (n : ℕ) → has_kind (local_kind f n) ≡ true → n < locals_end f.locals
kind_below f n h = found_kind f.locals n (find (λ x. x.id.0 == n) f.locals) refl h

-- what a slot says of a read of what a local holds
held_is : (terms : List Term) (inputs : ℕ → ℕ) (slot : Slot) (held : Option Word) → SlotIs terms inputs slot held → ReadIs terms inputs slot (held_value held)
held_is terms inputs slot (Some w) is = is
held_is terms inputs slot None is = (refl, is)

with_bytes : (terms : List Term) (inputs : ℕ → ℕ) (slot : Slot) (k : ValueKind) (held : Option Word) → has_bytes k ≡ true → SlotIs terms inputs slot held → ReadIs terms inputs slot (read_as (Some k) held)
with_bytes terms inputs slot kind.Bool held h is = held_is terms inputs slot held is
with_bytes terms inputs slot kind.Char held h is = held_is terms inputs slot held is
with_bytes terms inputs slot (kind.Int i) held h is = held_is terms inputs slot held is
with_bytes terms inputs slot kind.Unit held h is = cc
with_bytes terms inputs slot kind.Never held h is = cc

pub read_slot : (f : Function) (terms : List Term) (slots : List Slot) (n : ℕ) (k : ValueKind) (slot : Slot) → AreSlots f terms slots → local_kind f n ≡ Some k → has_bytes k ≡ true → slice_get slots n ≡ Some slot
    → IsRead f terms terms slots (local_kind f n) (λ values. read_local f values n) slot
read_slot f terms slots n k slot are e bytes at = record {
  grown = grown_same terms;
  kept = are.each n slot at;
  is = λ inputs values held. subst (λ (t : Option ValueKind). ReadIs terms inputs slot (read_as t (slice_index_or values n None))) (sym e) (with_bytes terms inputs slot k (slice_index_or values n None) bytes (held.each n slot at));
}

without_bytes : (k : ValueKind) (held : Option Word) → has_bytes k ≡ false → read_as (Some k) held ≡ Ok no_bits
without_bytes kind.Bool held h = cc
without_bytes kind.Char held h = cc
without_bytes (kind.Int i) held h = cc
without_bytes kind.Unit held h = refl
without_bytes kind.Never held h = refl

width_without : (k : ValueKind) → has_bytes k ≡ false → width_of_kind k ≡ 1
width_without kind.Bool h = refl
width_without kind.Char h = cc
width_without (kind.Int i) h = cc
width_without kind.Unit h = refl
width_without kind.Never h = refl

known_is : (terms : List Term) (inputs : ℕ → ℕ) (slot : Slot) (w : Word) (r : Result Word CheckClass) → r ≡ Ok w → holds terms inputs slot.set.0 ≡ true → value terms inputs slot.word.0 ≡ w → ReadIs terms inputs slot r
known_is terms inputs slot w r e set word = subst (ReadIs terms inputs slot) (sym e) (set, word)

-- a slot that is known, read as what has no bytes, or as a constant
pub read_known : (f : Function) (old new : List Term) (slots : List Slot) (kind : Option ValueKind) (read : Values → Result Word CheckClass) (w : Word) (slot : Slot) → IsKnownSlot old new w slot → w.width ≡ slot_width kind
    → ((values : Values) → read values ≡ Ok w) → IsRead f old new slots kind read slot
read_known f old new slots kind read w slot known width e = record {
  grown = known.grown;
  kept = record { set = known.kept.set; inside = known.kept.inside; width_is = known.kept.width_is ∙ width };
  is = λ inputs values held. known_is new inputs slot w (read values) (e values) (known.set_is inputs) (known.word_is inputs);
}

pub read_nothing : (f : Function) (old new : List Term) (slots : List Slot) (n : ℕ) (k : ValueKind) (slot : Slot) → local_kind f n ≡ Some k → has_bytes k ≡ false → IsKnownSlot old new no_bits slot
    → IsRead f old new slots (local_kind f n) (λ values. read_local f values n) slot
read_nothing f old new slots n k slot e bytes known =
    read_known f old new slots (local_kind f n) (λ values. read_local f values n) no_bits slot known (sym (ap slot_width e ∙ width_without k bytes))
    (λ values. ap (λ (t : Option ValueKind). read_as t (slice_index_or values n None)) e ∙ without_bytes k (slice_index_or values n None) bytes)

-- an operand of the form
pub plain_operand : (f : Function) (o : Operand) → has_kind (operand_kind f o) ≡ true → is_plain o ≡ true
plain_operand f o h = by_cases (is_plain o) h where
  by_cases : (t : Bool) → has_kind (cond t (kind_of_operand f o) None) ≡ true → t ≡ true
  by_cases true h = refl
  by_cases false h = cc

pub kind_of_plain : (f : Function) (o : Operand) → is_plain o ≡ true → operand_kind f o ≡ kind_of_operand f o
kind_of_plain f o h = ap (λ t. cond t (kind_of_operand f o) None) h

pub operand_has_kind : (f : Function) (o : Operand) → has_kind (operand_kind f o) ≡ true → has_kind (kind_of_operand f o) ≡ true
operand_has_kind f o h = subst (λ k. has_kind k ≡ true) (kind_of_plain f o (plain_operand f o h)) h

-- a constant of the form is a word of its kind
pub record IsConstant (c : Constant) (w : Word) : Type 0 where
  pub gives : word_of_constant c ≡ Ok w
  pub is_word : IsWord w
  pub width_is : w.width ≡ slot_width (kind_of_constant c)

truth_word : (b : Bool) → IsWord (truth b)
truth_word true = record { some_bits = omega arith; few_bits = omega arith; below = omega arith }
truth_word false = record { some_bits = omega arith; few_bits = omega arith; below = omega arith }

small_scalar : (n : ℕ) → is_scalar_value n ≡ true → n < 1114112
small_scalar n h = by_cases (nat_lt n 55296) refl h where
  by_cases : (t : Bool) → nat_lt n 55296 ≡ t → (t || (nat_lt 57343 n && nat_lt n 1114112)) ≡ true → n < 1114112
  by_cases true e h = let small : n < 55296 = ltb-true n 55296 e in omega arith
  by_cases false e h = ltb-true n 1114112 (and_right (nat_lt 57343 n) (nat_lt n 1114112) h)

char_word : (n : ℕ) → n < 1114112 → IsWord (record { width = 32; value = n })
char_word n h = record { some_bits = omega arith; few_bits = omega arith; below = omega arith }

ok_word : (v w : Word) → ◌≡◌ {A = Result Word CheckClass} (Ok v) (Ok w) → v ≡ w
ok_word v w e = cc

constant_word : (c : Constant) (v w : Word) → word_of_constant c ≡ Ok w → ◌≡◌ {A = Result Word CheckClass} (Ok v) (Ok w) → IsWord v → v.width ≡ slot_width (kind_of_constant c) → IsConstant c w
constant_word c v w e same is width = record { gives = e; is_word = subst IsWord (ok_word v w same) is; width_is = subst (λ (x : Word). x.width ≡ slot_width (kind_of_constant c)) (ok_word v w same) width }

pub constant_is : (c : Constant) (w : Word) → is_constant c ≡ true → word_of_constant c ≡ Ok w → IsConstant c w
constant_is (constant.Integer t v) w h e = constant_word (constant.Integer t v) v w e e (word_of_test v (and_right (v.width == int_width t) (is_word v) h)) (eqb-true v.width (int_width t) (and_left (v.width == int_width t) (is_word v) h))
constant_is (constant.Bool b) w h e = constant_word (constant.Bool b) (truth b) w e e (truth_word b) refl
constant_is (constant.Char n) w h e = constant_word (constant.Char n) (record { width = 32; value = n }) w e e (char_word n (small_scalar n h)) refl
constant_is (constant.Text t) w h e = cc
constant_is constant.Unit w h e = cc
constant_is (constant.Named n) w h e = cc

none_err : (c : Constant) (e : CheckClass) → is_constant c ≡ true → word_of_constant c ≡ Err e → ⊥
none_err (constant.Integer t v) e h x = cc
none_err (constant.Bool b) e h x = cc
none_err (constant.Char n) e h x = cc
none_err (constant.Text t) e h x = cc
none_err constant.Unit e h x = cc
none_err (constant.Named n) e h x = cc

pub constant_given : (c : Constant) (e : CheckClass) → is_constant c ≡ true → word_of_constant c ≡ Err e → ⊥
constant_given = none_err

pub read_constant : (f : Function) (old new : List Term) (slots : List Slot) (c : Constant) (w : Word) (slot : Slot) → IsConstant c w → IsKnownSlot old new w slot
    → IsRead f old new slots (kind_of_constant c) (λ values. word_of_constant c) slot
read_constant f old new slots c w slot is known = read_known f old new slots (kind_of_constant c) (λ values. word_of_constant c) w slot known is.width_is (λ values. is.gives)

some_none : (slot : Slot) → ◌≡◌ {A = Option Slot} (Some slot) None → ⊥
some_none slot e = cc

-- each declared local has a slot
pub no_slot : (f : Function) (terms : List Term) (slots : List Slot) (n : ℕ) → AreSlots f terms slots → has_kind (local_kind f n) ≡ true → slice_get slots n ≡ None → ⊥
no_slot f terms slots n are h e =
    let below : n < locals_end f.locals = kind_below f n h in
    let inside : n < length slots = subst (λ m. n < m) (sym are.one_each) below in
    absent slots n inside e
  where
    absent : (slots : List Slot) (n : ℕ) → n < length slots → slice_get slots n ≡ None → ⊥
    absent [] n h e = omega arith
    absent (x ∷ xs) zero h e = some_none x e
    absent (x ∷ xs) (suc n) h e = absent xs n (omega arith) e

pub read_copied : (f : Function) (old new : List Term) (slots : List Slot) (o : Operand) (n : ℕ) (slot : Slot) → kind_of_operand f o ≡ local_kind f n → ((values : Values) → operand_value f values o ≡ read_local f values n)
    → IsRead f old new slots (local_kind f n) (λ values. read_local f values n) slot → IsRead f old new slots (kind_of_operand f o) (λ values. operand_value f values o) slot
read_copied f old new slots o n slot e same read = record {
  grown = read.grown;
  kept = subst (λ k. IsSlot new (slot_width k) slot) (sym e) read.kept;
  is = λ inputs values held. subst (ReadIs new inputs slot) (sym (same values)) (read.is inputs values held);
}

-- What operations add to a sum of products.
use Rattle.std.proofs.Common.{◌≡◌, ℕ, ◌+◌, ◌-◌, ◌*◌, ◌%◌, ◌^◌, ◌<◌, ◌≤◌, List, length, ap, sym, ◌∙◌, refl, subst, arith, true, false}
use Rattle.std.specs.Prelude.{slice_get, Some}
use Rattle.word_bits.specs.declared.word.Word.{Word}
use Rattle.word_bits.specs.Words.{IsWidth}
use Rattle.std.proofs.lemmas.Nat.{one_shl}
use Rattle.std.proofs.Math.Nat.{mod-lt}
use Rattle.word_bits.proofs.Cuts.{word_of-difference}
use Rattle.sym_terms.specs.declared.term.Term.{Term}
use Rattle.sym_terms.specs.declared.term.Term.TheVariants.{Constant, Apply}
use Rattle.sym_terms.specs.declared.term.TermId.{TermId}
use Rattle.sym_terms.specs.declared.term.TermOp.{TermOp}
use Rattle.sym_terms.specs.declared.term.TermOp.TheVariants.{Add, Sub, Mul, Neg, Shl}
use Rattle.sym_terms.specs.declared.sums.Product.{Product}
use Rattle.sym_terms.specs.declared.sums.Summand.{Summand}
use Rattle.sym_terms.specs.Terms.{value, width_of, AreFitting}
use Rattle.sym_terms.specs.Ops.{is_binary, is_shift}
use Rattle.sym_terms.specs.Sums.{product_value, sum_value, AreCongruent, Adds, IsNothing}
use Rattle.sym_terms.specs.Alike.{number_at, Collects, IsShiftFactor, AreAlike}
use Rattle.sym_terms.proofs.TermLaws.{at_value, at_width}
use Rattle.sym_terms.proofs.ValueWords.{value_word, IsWidth-width_of}
use Rattle.sym_terms.proofs.CommonParts.{negated_is, same_words}
use Rattle.sym_terms.proofs.AgainLaws.{parts_of}
use Rattle.sym_terms.proofs.Congruences.{congruent_same, congruent_through, congruent-cut, congruent-sum_first, congruent-sum_second, congruent-product, congruent-product_first, congruent_narrower, sum_cut, difference_cut, opposite_cut, product_cut, shift_cut, same_of_nothing}

-- the same change, with another form of the amount
pub Collects-as : {terms : List Term} {width : ℕ} {old new : List Summand} {amount : (ℕ → ℕ) → ℕ} (other : (ℕ → ℕ) → ℕ) → Collects terms width old new amount
    → ((inputs : ℕ → ℕ) → AreCongruent width (amount inputs) (other inputs)) → Collects terms width old new other
Collects-as {terms} {width} {old} other collects same = record { sum_is = λ inputs. congruent_through (collects.sum_is inputs) (congruent-sum_first (sum_value (number_at terms inputs) old) (same inputs)) }

-- a change after another
pub Collects-both : {terms : List Term} {width : ℕ} {old mid new : List Summand} {first second : (ℕ → ℕ) → ℕ} → Collects terms width old mid first → Collects terms width mid new second
    → Collects terms width old new (λ inputs. first inputs + second inputs)
Collects-both {terms} {width} {old} {mid} {new} {first} {second} one two = record {
  sum_is = λ inputs.
      let more = congruent-sum_second (second inputs) (one.sum_is inputs) in
      let before = sum_value (number_at terms inputs) old in
      let form : before + first inputs + second inputs ≡ before + (first inputs + second inputs) = omega arith in
      congruent_through (two.sum_is inputs) (congruent_through more (congruent_same width _ _ form));
}

-- a change of 128 bits, at a width
pub Collects-Adds : {old new : List Summand} {amount : (ℕ → ℕ) → ℕ} (terms : List Term) (width : ℕ) → width ≤ 128 → Adds old new amount → Collects terms width old new (λ inputs. amount (number_at terms inputs))
Collects-Adds terms width few adds = record { sum_is = λ inputs. congruent_narrower width few (adds.sum_is (number_at terms inputs)) }

module _ (terms : List Term) (are : AreFitting terms) (old new : List Summand) (c : ℕ) where
  few_bits : (n : ℕ) → n < length terms → width_of terms n ≤ 128
  few_bits n inside = (IsWidth-width_of terms are n inside).few_bits

  -- a term of its own
  pub Collects-single : (id : TermId) → id.0 < length terms → Adds old new (λ values. c * values id.0) → Collects terms (width_of terms id.0) old new (λ inputs. c * number_at terms inputs id.0)
  Collects-single id inside adds = Collects-Adds terms (width_of terms id.0) (few_bits id.0 inside) adds

  -- a constant
  pub Collects-constant : (id : TermId) (word : Word) → id.0 < length terms → slice_get terms id.0 ≡ Some (Constant word) → Adds old new (λ values. (c * word.value) % 2 ^ 128 * 1)
      → Collects terms (width_of terms id.0) old new (λ inputs. c * number_at terms inputs id.0)
  Collects-constant id word inside at adds =
      let few = few_bits id.0 inside in
      let cut : AreCongruent (width_of terms id.0) ((c * word.value) % 2 ^ 128 * 1) (c * word.value * 1) = congruent-product (congruent_narrower (width_of terms id.0) few (congruent-cut 128 (c * word.value))) (congruent_same _ 1 1 refl) in
      Collects-as (λ inputs. c * number_at terms inputs id.0) (Collects-Adds terms (width_of terms id.0) few adds) (λ inputs.
      let form : c * word.value * 1 ≡ c * word.value = omega arith in
      congruent_through cut (congruent_same _ _ _ (form ∙ ap (λ (w : Word). c * w.value) (sym (at_value terms are id.0 (Constant word) at inputs)))))

  -- a sum, a difference and a product
  pub Collects-add : (id a b : TermId) → id.0 < length terms → slice_get terms id.0 ≡ Some (Apply Add a b)
      → Collects terms (width_of terms a.0) old new (λ inputs. c * number_at terms inputs a.0 + c * number_at terms inputs b.0)
      → Collects terms (width_of terms id.0) old new (λ inputs. c * number_at terms inputs id.0)
  Collects-add id a b inside at collects =
      let has = parts_of terms are Add a b id.0 inside refl refl at in
      subst (λ (w : ℕ). Collects terms w old new (λ inputs. c * number_at terms inputs id.0)) (sym has.width_is)
      (Collects-as (λ inputs. c * number_at terms inputs id.0) collects (λ inputs.
      let x = value terms inputs a.0 in
      let y = value terms inputs b.0 in
      let number : (x.value + y.value) % 2 ^ width_of terms a.0 ≡ number_at terms inputs id.0 =
      ap (λ k. (x.value + y.value) % 2 ^ k) (sym (value_word terms are inputs a.0 has.first).width_is) ∙ ap (λ (w : Word). w.value) (sym (has.value_is inputs)) in
      congruent_through (sum_cut (width_of terms a.0) c x.value y.value) (congruent_same _ _ _ (ap (λ k. c * k) number))))

  pub Collects-mul : (id a b : TermId) → id.0 < length terms → slice_get terms id.0 ≡ Some (Apply Mul a b)
      → Collects terms (width_of terms a.0) old new (λ inputs. c * (number_at terms inputs a.0 * number_at terms inputs b.0))
      → Collects terms (width_of terms id.0) old new (λ inputs. c * number_at terms inputs id.0)
  Collects-mul id a b inside at collects =
      let has = parts_of terms are Mul a b id.0 inside refl refl at in
      subst (λ (w : ℕ). Collects terms w old new (λ inputs. c * number_at terms inputs id.0)) (sym has.width_is)
      (Collects-as (λ inputs. c * number_at terms inputs id.0) collects (λ inputs.
      let x = value terms inputs a.0 in
      let y = value terms inputs b.0 in
      let number : (x.value * y.value) % 2 ^ width_of terms a.0 ≡ number_at terms inputs id.0 =
      ap (λ k. (x.value * y.value) % 2 ^ k) (sym (value_word terms are inputs a.0 has.first).width_is) ∙ ap (λ (w : Word). w.value) (sym (has.value_is inputs)) in
      congruent_through (product_cut (width_of terms a.0) c x.value y.value) (congruent_same _ _ _ (ap (λ k. c * k) number))))

  pub Collects-sub : (n : ℕ) → (n + c) % 2 ^ 128 ≡ 0 → (id a b : TermId) → id.0 < length terms → slice_get terms id.0 ≡ Some (Apply Sub a b)
      → Collects terms (width_of terms a.0) old new (λ inputs. c * number_at terms inputs a.0 + n * number_at terms inputs b.0)
      → Collects terms (width_of terms id.0) old new (λ inputs. c * number_at terms inputs id.0)
  Collects-sub n e id a b inside at collects =
      let has = parts_of terms are Sub a b id.0 inside refl refl at in
      let few = few_bits a.0 has.first in
      subst (λ (w : ℕ). Collects terms w old new (λ inputs. c * number_at terms inputs id.0)) (sym has.width_is)
      (Collects-as (λ inputs. c * number_at terms inputs id.0) collects (λ inputs.
      let x = value terms inputs a.0 in
      let y = value terms inputs b.0 in
      let width_is : x.width ≡ width_of terms a.0 = (value_word terms are inputs a.0 has.first).width_is in
      let less : y.value < 2 ^ x.width = has.second_below inputs in
      let within : y.value ≤ 2 ^ x.width = omega arith in
      let below : y.value ≤ 2 ^ width_of terms a.0 = subst (λ (k : ℕ). y.value ≤ 2 ^ k) width_is within in
      let number : (x.value + (2 ^ width_of terms a.0 - y.value)) % 2 ^ width_of terms a.0 ≡ number_at terms inputs id.0 =
      ap (λ k. (x.value + (2 ^ k - y.value)) % 2 ^ k) (sym width_is) ∙ ap (λ (w : Word). w.value) (sym (has.value_is inputs ∙ word_of-difference x.width x.value y.value within)) in
      congruent_through (difference_cut (width_of terms a.0) n c x.value y.value few e below) (congruent_same _ _ _ (ap (λ k. c * k) number))))

  -- minus a term
  pub Collects-neg : (n : ℕ) → (n + c) % 2 ^ 128 ≡ 0 → (id a b : TermId) → id.0 < length terms → slice_get terms id.0 ≡ Some (Apply Neg a b)
      → Collects terms (width_of terms a.0) old new (λ inputs. n * number_at terms inputs a.0)
      → Collects terms (width_of terms id.0) old new (λ inputs. c * number_at terms inputs id.0)
  Collects-neg n e id a b inside at collects =
      let inner = are.fitting id.0 (Apply Neg a b) at in
      let first : a.0 < length terms = omega (arith, inner.0) in
      subst (λ (w : ℕ). Collects terms w old new (λ inputs. c * number_at terms inputs id.0)) (sym (at_width terms are id.0 (Apply Neg a b) at))
      (Collects-as (λ inputs. c * number_at terms inputs id.0) collects (λ inputs.
      let x = value terms inputs a.0 in
      let word = value_word terms are inputs a.0 first in
      let less : x.value < 2 ^ x.width = word.is_word.below in
      let within : x.value ≤ 2 ^ x.width = omega arith in
      let below : x.value ≤ 2 ^ width_of terms a.0 = subst (λ (k : ℕ). x.value ≤ 2 ^ k) word.width_is within in
      let number : (0 + (2 ^ width_of terms a.0 - x.value)) % 2 ^ width_of terms a.0 ≡ number_at terms inputs id.0 =
      ap (λ k. (0 + (2 ^ k - x.value)) % 2 ^ k) (sym word.width_is) ∙ ap (λ (w : Word). w.value) (sym (at_value terms are id.0 (Apply Neg a b) at inputs ∙ negated_is x word.is_word)) in
      congruent_through (opposite_cut (width_of terms a.0) n c x.value (few_bits a.0 first) e below) (congruent_same _ _ _ (ap (λ k. c * k) number))))

  -- a shift by a constant
  pub Collects-shl : (factor : ℕ) (id a b : TermId) → id.0 < length terms → slice_get terms id.0 ≡ Some (Apply Shl a b) → IsShiftFactor terms b.0 (width_of terms a.0) factor
      → Collects terms (width_of terms a.0) old new (λ inputs. (c * factor) % 2 ^ 128 * number_at terms inputs a.0)
      → Collects terms (width_of terms id.0) old new (λ inputs. c * number_at terms inputs id.0)
  Collects-shl factor id a b inside at shift collects =
      let inner = are.fitting id.0 (Apply Shl a b) at in
      let first : a.0 < length terms = omega (arith, inner.0) in
      subst (λ (w : ℕ). Collects terms w old new (λ inputs. c * number_at terms inputs id.0)) (sym (at_width terms are id.0 (Apply Shl a b) at))
      (Collects-as (λ inputs. c * number_at terms inputs id.0) collects (λ inputs.
      let x = value terms inputs a.0 in
      let y = value terms inputs b.0 in
      let number : (x.value * factor) % 2 ^ width_of terms a.0 ≡ number_at terms inputs id.0 =
      ap (λ k. (x.value * k) % 2 ^ width_of terms a.0) (shift.factor_is inputs)
      ∙ ap (λ k. (x.value * 2 ^ (y.value % k)) % 2 ^ k) (sym (value_word terms are inputs a.0 first).width_is)
      ∙ ap (λ (w : Word). w.value) (sym (at_value terms are id.0 (Apply Shl a b) at inputs)) in
      congruent_through (shift_cut (width_of terms a.0) c factor x.value (few_bits a.0 first)) (congruent_same _ _ _ (ap (λ k. c * k) number))))

-- two sums that were collected apart, multiplied
pub Collects-multiplied : (terms : List Term) (width : ℕ) → width ≤ 128 → (old new first second none other : List Summand) (c : ℕ) (a b : TermId)
    → ((values : ℕ → ℕ) → sum_value values none ≡ 0) → ((values : ℕ → ℕ) → sum_value values other ≡ 0)
    → Collects terms width none first (λ inputs. 1 * number_at terms inputs a.0) → Collects terms width other second (λ inputs. 1 * number_at terms inputs b.0)
    → Adds old new (λ values. c * (sum_value values first * sum_value values second))
    → Collects terms width old new (λ inputs. c * (number_at terms inputs a.0 * number_at terms inputs b.0))
Collects-multiplied terms width few old new first second none other c a b empty empty_too one two adds =
    Collects-as (λ inputs. c * (number_at terms inputs a.0 * number_at terms inputs b.0)) (Collects-Adds terms width few adds) (λ inputs.
    congruent-product_first c (congruent-product
    (congruent_through (one.sum_is inputs) (congruent_same width _ _ (alone (sum_value (number_at terms inputs) none) (number_at terms inputs a.0) (empty (number_at terms inputs)))))
    (congruent_through (two.sum_is inputs) (congruent_same width _ _ (alone (sum_value (number_at terms inputs) other) (number_at terms inputs b.0) (empty_too (number_at terms inputs)))))))
  where
    alone : (s x : ℕ) → s ≡ 0 → s + 1 * x ≡ x
    alone s x e = omega arith

-- a sum of which nothing is left once a term was added and another taken away
pub AreAlike-nothing : (terms : List Term) → AreFitting terms → (none first second : List Summand) (n : ℕ) (a b : TermId) → a.0 < length terms → b.0 < length terms → width_of terms b.0 ≡ width_of terms a.0
    → (n + 1) % 2 ^ 128 ≡ 0 → ((values : ℕ → ℕ) → sum_value values none ≡ 0)
    → Collects terms (width_of terms a.0) none first (λ inputs. 1 * number_at terms inputs a.0)
    → Collects terms (width_of terms b.0) first second (λ inputs. n * number_at terms inputs b.0)
    → IsNothing (width_of terms a.0) second → AreAlike terms a.0 b.0
AreAlike-nothing terms are none first second n a b inside inside_too same_width e empty one two is = record {
  value_is = λ inputs.
      let x = value_word terms are inputs a.0 inside in
      let y = value_word terms are inputs b.0 inside_too in
      let below : (value terms inputs a.0).value < 2 ^ width_of terms a.0 = subst (λ (k : ℕ). (value terms inputs a.0).value < 2 ^ k) x.width_is x.is_word.below in
      let below_too : (value terms inputs b.0).value < 2 ^ width_of terms a.0 = subst (λ (k : ℕ). (value terms inputs b.0).value < 2 ^ k) (y.width_is ∙ same_width) y.is_word.below in
      let start : AreCongruent (width_of terms a.0) (sum_value (number_at terms inputs) first) (0 + 1 * number_at terms inputs a.0) =
      congruent_through (one.sum_is inputs) (congruent_same _ _ _ (ap (λ k. k + 1 * number_at terms inputs a.0) (empty (number_at terms inputs)))) in
      let later : AreCongruent (width_of terms a.0) (sum_value (number_at terms inputs) second) (sum_value (number_at terms inputs) first + n * number_at terms inputs b.0) =
      subst (λ (w : ℕ). AreCongruent w (sum_value (number_at terms inputs) second) (sum_value (number_at terms inputs) first + n * number_at terms inputs b.0)) same_width (two.sum_is inputs) in
      same_words (value terms inputs a.0) (value terms inputs b.0) (x.width_is ∙ sym same_width ∙ sym y.width_is)
      (same_of_nothing (width_of terms a.0) n _ _ _ _ (IsWidth-width_of terms are a.0 inside).few_bits e start later (is.sum_is (number_at terms inputs)) below below_too);
}

-- a change after another, at widths that are one
pub Collects-both_at : {terms : List Term} {v w : ℕ} {old mid new : List Summand} {first second : (ℕ → ℕ) → ℕ} → w ≡ v → Collects terms v old mid first → Collects terms w mid new second
    → Collects terms v old new (λ inputs. first inputs + second inputs)
Collects-both_at {terms} {v} {w} {old} {mid} {new} {first} {second} e one two = Collects-both one (subst (λ (k : ℕ). Collects terms k mid new second) e two)

-- two terms that are kept as one product
pub Collects-pair : (terms : List Term) (width : ℕ) → width ≤ 128 → (old new : List Summand) (c : ℕ) (a b : TermId) (product : Product)
    → ((values : ℕ → ℕ) → product_value values product ≡ values a.0 * values b.0) → Adds old new (λ values. c * product_value values product)
    → Collects terms width old new (λ inputs. c * (number_at terms inputs a.0 * number_at terms inputs b.0))
Collects-pair terms width few old new c a b product is adds =
    Collects-as (λ inputs. c * (number_at terms inputs a.0 * number_at terms inputs b.0)) (Collects-Adds terms width few adds) (λ inputs.
    congruent_same width _ _ (ap (λ k. c * k) (is (number_at terms inputs))))

-- two sums multiplied, at widths that are one
pub Collects-multiplied_at : (terms : List Term) (v w : ℕ) → v ≤ 128 → w ≡ v → {old new first second none other : List Summand} (c : ℕ) (a b : TermId)
    → ((values : ℕ → ℕ) → sum_value values none ≡ 0) → ((values : ℕ → ℕ) → sum_value values other ≡ 0)
    → Collects terms v none first (λ inputs. 1 * number_at terms inputs a.0) → Collects terms w other second (λ inputs. 1 * number_at terms inputs b.0)
    → Adds old new (λ values. c * (sum_value values first * sum_value values second))
    → Collects terms v old new (λ inputs. c * (number_at terms inputs a.0 * number_at terms inputs b.0))
Collects-multiplied_at terms v w few e {old} {new} {first} {second} {none} {other} c a b empty empty_too one two adds =
    Collects-multiplied terms v few old new first second none other c a b empty empty_too one (subst (λ (k : ℕ). Collects terms k other second (λ inputs. 1 * number_at terms inputs b.0)) e two) adds

-- a constant that a shift is by
pub IsShiftFactor-power : (terms : List Term) → AreFitting terms → (amount : TermId) (word : Word) (width : ℕ) → IsWidth width → slice_get terms amount.0 ≡ Some (Constant word)
    → IsShiftFactor terms amount.0 width ((1 * 2 ^ (word.value % width)) % 2 ^ 128)
IsShiftFactor-power terms are amount word width is at =
    let some : 0 < width = omega (arith, is.some_bits) in
    let small : word.value % width < width = mod-lt word.value some in
    let below : word.value % width < 128 = omega (arith, is.few_bits) in
    record {
      factor_is = λ inputs. one_shl (word.value % width) 128 below ∙ ap (λ (w : Word). 2 ^ (w.value % width)) (sym (at_value terms are amount.0 (Constant word) at inputs));
    }

-- the widths that the operands have, and the terms that they are
pub record AreParts (terms : List Term) (id a b : ℕ) : Type 0 where
  pub first_below : a < id
  pub second_below : b < id
  pub first : a < length terms
  pub second : b < length terms
  pub one_width : width_of terms b ≡ width_of terms a
  pub few_bits : width_of terms a ≤ 128

module _ (terms : List Term) (are : AreFitting terms) (id a b : TermId) (inside : id.0 < length terms) where
  parts_below : (op : TermOp) → is_binary op ≡ true → is_shift op ≡ false → slice_get terms id.0 ≡ Some (Apply op a b) → AreParts terms id.0 a.0 b.0
  parts_below op binary plain at =
      let inner = are.fitting id.0 (Apply op a b) at in
      let below_a : a.0 < id.0 = inner.0 in
      let below_b : b.0 < id.0 = inner.1 binary in
      let first : a.0 < length terms = omega arith in
      record {
        first_below = below_a;
        second_below = below_b;
        first = first;
        second = omega arith;
        one_width = inner.3 binary plain;
        few_bits = (IsWidth-width_of terms are a.0 first).few_bits;
      }

  pub parts-add : slice_get terms id.0 ≡ Some (Apply Add a b) → AreParts terms id.0 a.0 b.0
  parts-add at = parts_below Add refl refl at

  pub parts-sub : slice_get terms id.0 ≡ Some (Apply Sub a b) → AreParts terms id.0 a.0 b.0
  parts-sub at = parts_below Sub refl refl at

  pub parts-mul : slice_get terms id.0 ≡ Some (Apply Mul a b) → AreParts terms id.0 a.0 b.0
  parts-mul at = parts_below Mul refl refl at

  pub below-neg : slice_get terms id.0 ≡ Some (Apply Neg a b) → a.0 < id.0
  below-neg at = (are.fitting id.0 (Apply Neg a b) at).0

  pub below-shl : slice_get terms id.0 ≡ Some (Apply Shl a b) → a.0 < id.0
  below-shl at = (are.fitting id.0 (Apply Shl a b) at).0

  pub amount-shl : slice_get terms id.0 ≡ Some (Apply Shl a b) → b.0 < length terms
  amount-shl at = let below : b.0 < id.0 = (are.fitting id.0 (Apply Shl a b) at).1 refl in omega arith

-- nothing is left of a term and another taken away, at a width that is theirs
pub AreAlike-at : (terms : List Term) → AreFitting terms → {none first second : List Summand} {v : ℕ} (n : ℕ) (a b : TermId) → a.0 < length terms → b.0 < length terms → width_of terms b.0 ≡ width_of terms a.0
    → v ≡ width_of terms a.0 → (n + 1) % 2 ^ 128 ≡ 0 → ((values : ℕ → ℕ) → sum_value values none ≡ 0)
    → Collects terms (width_of terms a.0) none first (λ inputs. 1 * number_at terms inputs a.0)
    → Collects terms (width_of terms b.0) first second (λ inputs. n * number_at terms inputs b.0)
    → IsNothing v second → AreAlike terms a.0 b.0
AreAlike-at terms are {none} {first} {second} {v} n a b inside inside_too same_width is_width e empty one two is =
    AreAlike-nothing terms are none first second n a b inside inside_too same_width e empty one two (subst (λ (k : ℕ). IsNothing k second) is_width is)

-- The value of a term is a word of its width.
use Rattle.std.proofs.Common.{◌≡◌, ℕ, zero, suc, ◌+◌, ◌<◌, ◌≤◌, List, length, ap, sym, ◌∙◌, refl, subst, arith, Bool, true, false, if◌then◌else◌, IsTrue, get_or, inl, inr, ◌⊎◌}
use Rattle.std.proofs.lemmas.Bool.{cases_lt}
use Rattle.std.specs.Prelude.{slice_get, Some, None, ◌==◌, ℤ, pos, ◌-ℤ◌, neg_ℤ, int_div, int_rem, ◌%◌}
use Rattle.std.proofs.lemmas.Option.{slice_get_cases}
use Rattle.word_bits.specs.declared.word.Word.{Word}
use Rattle.word_bits.specs.Words.{IsWord, IsWidth, word, word_of, is_lawful, value_of, halved}
use Rattle.word_bits.proofs.Kept.{IsWord-word, IsWord-word_of, width-word_of, width_of_word, words_of, IsWord-both_bits, IsWord-either_bit, IsWord-different_bits, IsWord-complement}
use Rattle.sym_terms.specs.declared.term.Term.{Term}
use Rattle.sym_terms.specs.declared.term.Term.TheVariants.{Constant, Input, Apply, Cast, Choose, Slice}
use Rattle.sym_terms.specs.declared.term.TermOp.{TermOp}
use Rattle.sym_terms.specs.declared.term.TermOp.TheVariants.{Equal, Add, Sub, Mul, And, Or, Xor, Not, Neg, Shl, DivUnsigned, DivSigned, RemUnsigned, RemSigned, ShrUnsigned, ShrSigned, LessUnsigned, LessSigned, AddOverflowsUnsigned, AddOverflowsSigned, SubOverflowsUnsigned, SubOverflowsSigned, MulOverflowsUnsigned, MulOverflowsSigned, LawfulUnsigned, LawfulSigned}
use Rattle.sym_terms.specs.Ops.{is_binary, is_shift}
use Rattle.sym_terms.specs.Terms.{truth, applied, term_value, value, term_width, op_width, width_of, IsFitting, AreFitting, IsValue}
use Rattle.sym_terms.proofs.Grown.{value_at, width_at}

-- a word of this width
pub record IsWordOf (w : Word) (width : ℕ) : Type 0 where
  pub is_word : IsWord w
  pub width_is : w.width ≡ width

pub IsWordOf-truth : (t : Bool) → IsWordOf (truth t) 1
IsWordOf-truth true = record { is_word = record { some_bits = omega arith; few_bits = omega arith; below = omega arith }; width_is = refl }
IsWordOf-truth false = record { is_word = record { some_bits = omega arith; few_bits = omega arith; below = omega arith }; width_is = refl }

module _ (a b : Word) (first : IsWord a) where
  is_width : IsWidth a.width
  is_width = width_of_word a first

  cut : (n : ℕ) → IsWordOf (word a.width n) a.width
  cut n = record { is_word = IsWord-word a.width n is_width; width_is = refl }

  whole : (z : ℤ) → IsWordOf (word_of a.width z) a.width
  whole z = record { is_word = IsWord-word_of a.width z is_width; width_is = width-word_of a.width z }

  choice : (t : Bool) (w v : Word) → IsWordOf w a.width → IsWordOf v a.width → IsWordOf (if t then w else v) a.width
  choice true w v p q = p
  choice false w v p q = q

  -- the value of an operation at words that fit
  pub IsWordOf-applied : (op : TermOp) → (IsTrue (is_binary op) → IsWord b) → (IsTrue (is_binary op) → is_shift op ≡ false → b.width ≡ a.width) → IsWordOf (applied op a b) (op_width op a.width)
  IsWordOf-applied Equal second widths = IsWordOf-truth _
  IsWordOf-applied Add second widths = cut _
  IsWordOf-applied Sub second widths = whole (pos a.value -ℤ pos b.value)
  IsWordOf-applied Mul second widths = cut _
  IsWordOf-applied And second widths = record { is_word = IsWord-both_bits a b (words_of a b first (second refl) (widths refl refl)); width_is = refl }
  IsWordOf-applied Or second widths = record { is_word = IsWord-either_bit a b (words_of a b first (second refl) (widths refl refl)); width_is = refl }
  IsWordOf-applied Xor second widths = record { is_word = IsWord-different_bits a b (words_of a b first (second refl) (widths refl refl)); width_is = refl }
  IsWordOf-applied Not second widths = record { is_word = IsWord-complement a first; width_is = refl }
  IsWordOf-applied Neg second widths = whole (neg_ℤ (pos a.value))
  IsWordOf-applied Shl second widths = cut _
  IsWordOf-applied DivUnsigned second widths = choice (is_lawful a b false) _ _ (whole (int_div (value_of false a) (value_of false b))) (cut 0)
  IsWordOf-applied DivSigned second widths = choice (is_lawful a b true) _ _ (whole (int_div (value_of true a) (value_of true b))) (cut 0)
  IsWordOf-applied RemUnsigned second widths = choice (is_lawful a b false) _ _ (whole (int_rem (value_of false a) (value_of false b))) (cut 0)
  IsWordOf-applied RemSigned second widths = choice (is_lawful a b true) _ _ (whole (int_rem (value_of true a) (value_of true b))) (cut 0)
  IsWordOf-applied ShrUnsigned second widths = whole (halved (value_of false a) (b.value % a.width))
  IsWordOf-applied ShrSigned second widths = whole (halved (value_of true a) (b.value % a.width))
  IsWordOf-applied LessUnsigned second widths = IsWordOf-truth _
  IsWordOf-applied LessSigned second widths = IsWordOf-truth _
  IsWordOf-applied AddOverflowsUnsigned second widths = IsWordOf-truth _
  IsWordOf-applied AddOverflowsSigned second widths = IsWordOf-truth _
  IsWordOf-applied SubOverflowsUnsigned second widths = IsWordOf-truth _
  IsWordOf-applied SubOverflowsSigned second widths = IsWordOf-truth _
  IsWordOf-applied MulOverflowsUnsigned second widths = IsWordOf-truth _
  IsWordOf-applied MulOverflowsSigned second widths = IsWordOf-truth _
  IsWordOf-applied LawfulUnsigned second widths = IsWordOf-truth _
  IsWordOf-applied LawfulSigned second widths = IsWordOf-truth _

-- the value of a term that fits words
pub IsWordOf-term_value : (inputs : ℕ → ℕ) (n : ℕ) (w : ℕ → ℕ) (v : ℕ → Word) → ((i : ℕ) → i < n → IsWordOf (v i) (w i)) → (term : Term) → IsFitting n w term → IsWordOf (term_value inputs v term) (term_width w term)
IsWordOf-term_value inputs n w v words (Constant c) fits = record { is_word = fits; width_is = refl }
IsWordOf-term_value inputs n w v words (Input number width) fits = record { is_word = IsWord-word width (inputs number) fits; width_is = refl }
IsWordOf-term_value inputs n w v words (Apply op a b) fits =
    let first = words a.0 fits.0 in
    let value_is = IsWordOf-applied (v a.0) (v b.0) first.is_word op (λ binary. (words b.0 (fits.1 binary)).is_word)
    (λ binary other. (words b.0 (fits.1 binary)).width_is ∙ fits.3 binary other ∙ sym first.width_is) in
    record { is_word = value_is.is_word; width_is = value_is.width_is ∙ ap (op_width op) first.width_is }
IsWordOf-term_value inputs n w v words (Cast a signed width) fits = record { is_word = IsWord-word_of width _ fits.1; width_is = width-word_of width _ }
IsWordOf-term_value inputs n w v words (Choose test a b) fits = by ((v test.0).value == 1)
  where
    by : (t : Bool) → IsWordOf (if t then v a.0 else v b.0) (w a.0)
    by true = words a.0 fits.1
    by false = let other = words b.0 fits.2 in record { is_word = other.is_word; width_is = other.width_is ∙ fits.4 }
IsWordOf-term_value inputs n w v words (Slice a from width) fits =
    let source = words a.0 fits.0 in
    let few : (v a.0).width ≤ 128 = source.is_word.few_bits in
    let some : 1 ≤ width = fits.1 in
    let inside : from + width ≤ w a.0 = fits.2 in
    let is : IsWidth width = record { some_bits = some; few_bits = omega (arith, source.width_is) } in
    record { is_word = IsWord-word width _ is; width_is = refl }

module _ (terms : List Term) (are : AreFitting terms) (inputs : ℕ → ℕ) where
  words_below : (k : ℕ) → k ≤ length terms → (i : ℕ) → i < k → IsWordOf (value terms inputs i) (width_of terms i)
  words_below zero h i below = absurd (omega arith)
  words_below (suc k) h i below = by (words_below k (omega arith)) (slice_get_cases terms k).1 (cases_lt i k)
    where
      by : ((j : ℕ) → j < k → IsWordOf (value terms inputs j) (width_of terms j))
          → (((x : Term) × (k < length terms) × (slice_get terms k ≡ Some x) × (get_or terms k x ≡ x)) ⊎ ((length terms ≤ k) × (slice_get terms k ≡ None)))
          → (i < k) ⊎ (k ≤ i) → IsWordOf (value terms inputs i) (width_of terms i)
      by before item (inl lower) = before i lower
      by before (inr past) (inr last) = absurd (omega arith)
      by before (inl found) (inr last) =
          let fits = are.fitting k found.0 found.2 in
          let made = IsWordOf-term_value inputs k (width_of terms) (value terms inputs) before found.0 fits in
          let same : i ≡ k = omega arith in
          let word_is : value terms inputs i ≡ term_value inputs (value terms inputs) found.0 = ap (value terms inputs) same ∙ value_at terms k found.0 found.2 fits inputs in
          let width_is : width_of terms i ≡ term_width (width_of terms) found.0 = ap (width_of terms) same ∙ width_at terms k found.0 found.2 fits in
          rw (word_is, width_is) made

  -- the value of a term is a word of its width
  pub value_word : (n : ℕ) → n < length terms → IsWordOf (value terms inputs n) (width_of terms n)
  value_word n h = words_below (suc n) h n (omega arith)

-- the width of a term is one
pub IsWidth-width_of : (terms : List Term) → AreFitting terms → (n : ℕ) → n < length terms → IsWidth (width_of terms n)
IsWidth-width_of terms are n h =
    let made = value_word terms are (λ (k : ℕ). 0) n h in
    subst IsWidth made.width_is (width_of_word (value terms (λ (k : ℕ). 0) n) made.is_word)

-- as contracts say it
pub IsValue-value : (terms : List Term) → AreFitting terms → (n : ℕ) → n < length terms → (inputs : ℕ → ℕ) → IsValue terms inputs n
IsValue-value terms are n h inputs =
    let made = value_word terms are inputs n h in
    record { is_word = made.is_word; width_is = made.width_is }

-- What terms mean: the value and the width of each, and which terms fit those before them.
use Rattle.std.specs.Prelude.{ℕ, Bool, true, false, List, ◌+◌, ◌/◌, ◌^◌, ◌<◌, ◌≤◌, ◌≡◌, ◌==◌, ◌||◌, if◌then◌else◌, length, take, slice_get, Some, IsTrue}
use Rattle.word_bits.specs.declared.word.Word.{Word}
use Rattle.word_bits.specs.Words.{IsWidth, IsWord, word, added, subtracted, multiplied, negated, complement, both_bits, either_bit, different_bits, is_lawful, quotient, remainder, shifted_left, shifted_right, is_less, is_sum_over, is_difference_over, is_product_over, recast}
use Rattle.sym_terms.specs.declared.term.Term.{Term}
use Rattle.sym_terms.specs.declared.term.Term.TheVariants.{Constant, Input, Apply, Cast, Choose, Slice}
use Rattle.sym_terms.specs.declared.term.TermOp.{TermOp}
use Rattle.sym_terms.specs.declared.term.TermOp.TheVariants.{Equal, Add, Sub, Mul, And, Or, Xor, Not, Neg, Shl, DivUnsigned, DivSigned, RemUnsigned, RemSigned, ShrUnsigned, ShrSigned, LessUnsigned, LessSigned, AddOverflowsUnsigned, AddOverflowsSigned, SubOverflowsUnsigned, SubOverflowsSigned, MulOverflowsUnsigned, MulOverflowsSigned, LawfulUnsigned, LawfulSigned}
use Rattle.sym_terms.specs.Evaluated.{evaluated}
use Rattle.sym_terms.specs.Ops.{is_test, is_binary, is_shift}

-- a truth value as a word of one bit
abbrev pub truth : Bool → Word
truth b = record { width = 1; value = if b then 1 else 0 }

-- the quotient and the remainder, 0 where the divisor is not lawful
abbrev pub divided : Word → Word → Bool → Word
divided a b signed = if is_lawful a b signed then quotient a b signed else word a.width 0

abbrev pub left_over : Word → Word → Bool → Word
left_over a b signed = if is_lawful a b signed then remainder a b signed else word a.width 0

-- the value of an operation at two words: a test is a word of one bit
abbrev pub applied : TermOp → Word → Word → Word
applied Equal a b = truth (a.value == b.value)
applied Add a b = added a b
applied Sub a b = subtracted a b
applied Mul a b = multiplied a b
applied And a b = both_bits a b
applied Or a b = either_bit a b
applied Xor a b = different_bits a b
applied Not a b = complement a
applied Neg a b = negated a
applied Shl a b = shifted_left a b
applied DivUnsigned a b = divided a b false
applied DivSigned a b = divided a b true
applied RemUnsigned a b = left_over a b false
applied RemSigned a b = left_over a b true
applied ShrUnsigned a b = shifted_right a b false
applied ShrSigned a b = shifted_right a b true
applied LessUnsigned a b = truth (is_less a b false)
applied LessSigned a b = truth (is_less a b true)
applied AddOverflowsUnsigned a b = truth (is_sum_over a b false)
applied AddOverflowsSigned a b = truth (is_sum_over a b true)
applied SubOverflowsUnsigned a b = truth (is_difference_over a b false)
applied SubOverflowsSigned a b = truth (is_difference_over a b true)
applied MulOverflowsUnsigned a b = truth (is_product_over a b false)
applied MulOverflowsSigned a b = truth (is_product_over a b true)
applied LawfulUnsigned a b = truth (is_lawful a b false)
applied LawfulSigned a b = truth (is_lawful a b true)

-- bits of a word, the lowest being the one with this number
abbrev pub sliced : Word → ℕ → ℕ → Word
sliced a from width = word width (a.value / 2 ^ from)

-- the value of a term, where the inputs have these numbers and the earlier terms these values
abbrev pub term_value : (ℕ → ℕ) → (ℕ → Word) → Term → Word
term_value inputs v (Constant w) = w
term_value inputs v (Input number width) = word width (inputs number)
term_value inputs v (Apply op a b) = applied op (v a.0) (v b.0)
term_value inputs v (Cast a signed width) = recast (v a.0) signed width
term_value inputs v (Choose test a b) = if (v test.0).value == 1 then v a.0 else v b.0
term_value inputs v (Slice a from width) = sliced (v a.0) from width

-- no term has this value
abbrev pub no_word : Word
no_word = record { width = 0; value = 0 }

-- the value of the term with this number, under an assignment that gives each input a number
unfoldable pub value : List Term → (ℕ → ℕ) → ℕ → Word
value terms inputs = evaluated (term_value inputs) (λ _. no_word) 0 terms

-- the width of an operation's value, by that of its first operand
abbrev pub op_width : TermOp → ℕ → ℕ
op_width op w = if is_test op then 1 else w

-- the width of a term, by those of the earlier terms
abbrev pub term_width : (ℕ → ℕ) → Term → ℕ
term_width w (Constant c) = c.width
term_width w (Input number width) = width
term_width w (Apply op a b) = op_width op (w a.0)
term_width w (Cast a signed width) = width
term_width w (Choose test a b) = w a.0
term_width w (Slice a from width) = width

-- the width of the term with this number
unfoldable pub width_of : List Term → ℕ → ℕ
width_of terms = evaluated term_width (λ _. 0) 0 terms

-- a width at which a shift may be: a power of two
abbrev pub is_shift_width : ℕ → Bool
is_shift_width w = w == 1 || w == 2 || w == 4 || w == 8 || w == 16 || w == 32 || w == 64 || w == 128

-- the operands of an operation are earlier terms, of which there are so many, and have fitting widths: those of a shift
-- may differ, and the first then is a power of two; `Not` and `Neg` ask nothing of the second
abbrev pub AreOperands : ℕ → (ℕ → ℕ) → TermOp → ℕ → ℕ → Type 0
AreOperands count w op a b =
    (a < count)
    × (IsTrue (is_binary op) → b < count)
    × (IsTrue (is_shift op) → IsTrue (is_shift_width (w a)))
    × (IsTrue (is_binary op) → is_shift op ≡ false → w b ≡ w a)

-- the parts of a term are earlier terms, of which there are so many, with fitting widths
abbrev pub IsFitting : ℕ → (ℕ → ℕ) → Term → Type 0
IsFitting count w (Constant c) = IsWord c
IsFitting count w (Input number width) = IsWidth width
IsFitting count w (Apply op a b) = AreOperands count w op a.0 b.0
IsFitting count w (Cast a signed width) = (a.0 < count) × IsWidth width
IsFitting count w (Choose test a b) = (test.0 < count) × (a.0 < count) × (b.0 < count) × (w test.0 ≡ 1) × (w b.0 ≡ w a.0)
IsFitting count w (Slice a from width) = (a.0 < count) × (1 ≤ width) × (from + width ≤ w a.0)

-- no term is this input at another width
abbrev pub HasOneWidth : List Term → ℕ → ℕ → Type 0
HasOneWidth terms number width = (n : ℕ) (w : ℕ) → slice_get terms n ≡ Some (Input number w) → w ≡ width

-- an input has one width in all terms
abbrev pub KeepsInput : List Term → Term → Type 0
KeepsInput terms (Input number width) = HasOneWidth terms number width
KeepsInput terms _ = Unit {0}

-- a term that may be inserted into these terms
pub record Fits (terms : List Term) (term : Term) : Type 0 where
  pub fitting : IsFitting (length terms) (width_of terms) term
  pub input : KeepsInput terms term

-- each term fits the terms before it, and no input has two widths
pub record AreFitting (terms : List Term) : Type 0 where
  pub fitting : (n : ℕ) (term : Term) → slice_get terms n ≡ Some term → IsFitting n (width_of terms) term
  pub inputs : (n : ℕ) (number width : ℕ) → slice_get terms n ≡ Some (Input number width) → HasOneWidth terms number width

-- the value is a word of the term's width
pub record IsValue (terms : List Term) (inputs : ℕ → ℕ) (id : ℕ) : Type 0 where
  pub is_word : IsWord (value terms inputs id)
  pub width_is : (value terms inputs id).width ≡ width_of terms id

-- earlier terms stay, with their values and widths
pub record Keeps (old new : List Term) : Type 0 where
  pub longer : length old ≤ length new
  pub terms_kept : take (length old) new ≡ old
  pub values_kept : (inputs : ℕ → ℕ) (id : ℕ) → id < length old → value new inputs id ≡ value old inputs id
  pub widths_kept : (id : ℕ) → id < length old → width_of new id ≡ width_of old id

-- where the term is this input, it has this width
abbrev pub AgreesWith : Term → ℕ → ℕ → Type 0
AgreesWith (Input n w) number width = n ≡ number → w ≡ width
AgreesWith _ number width = Unit {0}

-- an input that had one width has it still
abbrev pub KeepsInputs : List Term → List Term → Type 0
KeepsInputs old new = (number width : ℕ) → HasOneWidth old number width → HasOneWidth new number width

-- the id has the value of the term
pub record IsInserted (old new : List Term) (term : Term) (id : ℕ) : Type 0 where
  pub keeps : Keeps old new
  pub inside : id < length new
  pub value_is : (inputs : ℕ → ℕ) → value new inputs id ≡ term_value inputs (value old inputs) term
  pub width_is : width_of new id ≡ term_width (width_of old) term
  pub inputs : (number width : ℕ) → HasOneWidth old number width → AgreesWith term number width → HasOneWidth new number width

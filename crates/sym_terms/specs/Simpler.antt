-- A simpler form of a term: a term that is there, another term, or an operation on a term that is there and a constant.
use Rattle.std.specs.Prelude.{◌≡◌, ℕ, ◌<◌, List, length, IsTrue, false}
use Rattle.word_bits.specs.declared.word.Word.{Word}
use Rattle.word_bits.specs.Words.{IsWord}
use Rattle.sym_terms.specs.declared.term.Term.{Term}
use Rattle.sym_terms.specs.declared.term.Term.TheVariants.{Constant}
use Rattle.sym_terms.specs.declared.term.TermId.{TermId}
use Rattle.sym_terms.specs.declared.term.TermOp.{TermOp}
use Rattle.sym_terms.specs.declared.laws.Law.{Law}
use Rattle.sym_terms.specs.declared.laws.Law.TheVariants.{First, Value, Applied}
use Rattle.sym_terms.specs.declared.simpler.Simpler.{Simpler}
use Rattle.sym_terms.specs.declared.simpler.Simpler.TheVariants.{Known, Other, WithConstant}
use Rattle.sym_terms.specs.Ops.{is_binary, is_shift}
use Rattle.sym_terms.specs.Terms.{Fits, AgreesWith, value, term_value, width_of, term_width, applied, op_width, is_shift_width}

-- the term with this number has the value of the term
pub record IsKnown (terms : List Term) (term : Term) (id : ℕ) : Type 0 where
  pub inside : id < length terms
  pub value_is : (inputs : ℕ → ℕ) → value terms inputs id ≡ term_value inputs (value terms inputs) term
  pub width_is : width_of terms id ≡ term_width (width_of terms) term

-- the other term has the value of the term
pub record IsOther (terms : List Term) (term other : Term) : Type 0 where
  pub fits : Fits terms other
  pub value_is : (inputs : ℕ → ℕ) → term_value inputs (value terms inputs) other ≡ term_value inputs (value terms inputs) term
  pub width_is : term_width (width_of terms) other ≡ term_width (width_of terms) term
  pub agrees : (number width : ℕ) → AgreesWith term number width → AgreesWith other number width

-- the operation on the term with this number and the constant has the value of the term
pub record IsWithConstant (terms : List Term) (term : Term) (op : TermOp) (a : ℕ) (c : Word) : Type 0 where
  pub inside : a < length terms
  pub constant : IsWord c
  pub shift : IsTrue (is_shift op) → IsTrue (is_shift_width (width_of terms a))
  pub one_width : IsTrue (is_binary op) → is_shift op ≡ false → c.width ≡ width_of terms a
  pub value_is : (inputs : ℕ → ℕ) → applied op (value terms inputs a) c ≡ term_value inputs (value terms inputs) term
  pub width_is : op_width op (width_of terms a) ≡ term_width (width_of terms) term

abbrev pub IsSimpler : List Term → Term → Simpler → Type 0
IsSimpler terms term (Known id) = IsKnown terms term id.0
IsSimpler terms term (Other other) = IsOther terms term other
IsSimpler terms term (WithConstant op a c) = IsWithConstant terms term op a.0 c

-- the simpler form that a law gives for this first operand
abbrev pub simpler_of : TermId → Law → Simpler
simpler_of a First = Known a
simpler_of a (Value w) = Other (Constant w)
simpler_of a (Applied op c) = WithConstant op a c

-- Operators as operations of terms.
use Rattle.std.specs.Prelude.{◌≡◌, ◌<◌, ℕ, Bool, true, false, if◌then◌else◌, List, length, IsTrue, Result, Ok, Err}
use Rattle.word_bits.specs.declared.word.Word.{Word}
use Rattle.word_bits.specs.Words.{complement, is_lawful}
use Rattle.vk_core.specs.declared.check.CheckClass.{CheckClass}
use Rattle.vk_core.specs.declared.check.CheckClass.TheVariants as class
use Rattle.mir_ir.specs.declared.tree.BinaryOp.{BinaryOp}
use Rattle.mir_ir.specs.declared.tree.BinaryOp.TheVariants as op
use Rattle.sym_terms.specs.declared.term.Term.{Term}
use Rattle.sym_terms.specs.declared.term.TermOp.{TermOp}
use Rattle.sym_terms.specs.declared.term.TermOp.TheVariants as term
use Rattle.sym_terms.specs.Terms.{applied, is_shift_width, op_width, value, width_of}
use Rattle.scalar_runs.specs.Operators.{is_shift, operator_value}
use Rattle.value_terms.specs.declared.operators.OpTerms.{OpTerms}
use Rattle.value_terms.specs.Made.{Grown, IsBit, holds}

-- by the sign of the operands
abbrev pub by_sign : Bool → TermOp → TermOp → TermOp
by_sign signed a b = if signed then a else b

-- the operation that an operator is, but for the order of the operands and a negation
abbrev pub term_op : BinaryOp → Bool → TermOp
term_op op.Add signed = term.Add
term_op op.Sub signed = term.Sub
term_op op.Mul signed = term.Mul
term_op op.Div signed = by_sign signed term.DivSigned term.DivUnsigned
term_op op.Rem signed = by_sign signed term.RemSigned term.RemUnsigned
term_op op.BitXor signed = term.Xor
term_op op.BitAnd signed = term.And
term_op op.BitOr signed = term.Or
term_op op.Shl signed = term.Shl
term_op op.Shr signed = by_sign signed term.ShrSigned term.ShrUnsigned
term_op op.Eq signed = term.Equal
term_op op.Ne signed = term.Equal
term_op op.Lt signed = by_sign signed term.LessSigned term.LessUnsigned
term_op op.Le signed = by_sign signed term.LessSigned term.LessUnsigned
term_op op.Ge signed = by_sign signed term.LessSigned term.LessUnsigned
term_op op.Gt signed = by_sign signed term.LessSigned term.LessUnsigned
term_op _ signed = term.Add

-- a > b is b < a, and a <= b is no b < a
abbrev pub is_swapped : BinaryOp → Bool
is_swapped op.Gt = true
is_swapped op.Le = true
is_swapped _ = false

abbrev pub is_inverted : BinaryOp → Bool
is_inverted op.Ne = true
is_inverted op.Ge = true
is_inverted op.Le = true
is_inverted _ = false

abbrev pub divides : BinaryOp → Bool
divides op.Div = true
divides op.Rem = true
divides _ = false

-- an operator of the scalar form
abbrev pub is_scalar_op : BinaryOp → Bool
is_scalar_op op.Offset = false
is_scalar_op op.AddWithOverflow = false
is_scalar_op op.SubWithOverflow = false
is_scalar_op op.MulWithOverflow = false
is_scalar_op _ = true

abbrev pub inverted : Bool → Word → Word
inverted turn w = if turn then complement w else w

-- the word of an operator
abbrev pub word_value : BinaryOp → Bool → Word → Word → Word
word_value o signed a b = inverted (is_inverted o) (applied (term_op o signed) (if is_swapped o then b else a) (if is_swapped o then a else b))

abbrev pub lawful_op : Bool → TermOp
lawful_op signed = by_sign signed term.LawfulSigned term.LawfulUnsigned

-- there is such a word
abbrev pub lawful_value : BinaryOp → Bool → Word → Word → Bool
lawful_value o signed a b = if divides o then is_lawful a b signed else true

-- the widths of operands fit the operator
pub record FitsOperator (o : BinaryOp) (a b : ℕ) : Type 0 where
  pub scalar : is_scalar_op o ≡ true
  pub plain : is_shift o ≡ false → b ≡ a
  pub shift : is_shift o ≡ true → IsTrue (is_shift_width a)

-- the width of the word
abbrev pub result_width : BinaryOp → Bool → ℕ → ℕ
result_width o signed w = op_width (term_op o signed) w

-- what the terms say of a result that is a word, or the fault of a division
abbrev pub OperatorIs : List Term → (ℕ → ℕ) → OpTerms → Result Word CheckClass → Type 0
OperatorIs terms inputs t (Ok w) = (holds terms inputs t.lawful.0 ≡ true) × (value terms inputs t.word.0 ≡ w)
OperatorIs terms inputs t (Err c) = (c ≡ class.Division) × (holds terms inputs t.lawful.0 ≡ false)

pub record IsOperator (old new : List Term) (o : BinaryOp) (signed : Bool) (a b : ℕ) (t : OpTerms) : Type 0 where
  pub grown : Grown old new
  pub lawful : IsBit new t.lawful.0
  pub inside : t.word.0 < length new
  pub width_is : width_of new t.word.0 ≡ result_width o signed (width_of old a)
  pub is : (inputs : ℕ → ℕ) → OperatorIs new inputs t (operator_value o signed (value old inputs a) (value old inputs b))

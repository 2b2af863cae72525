-- Kinds of operations.
use Rattle.std.specs.Prelude.{Bool, true, false}
use Rattle.sym_terms.specs.declared.term.TermOp.{TermOp}
use Rattle.sym_terms.specs.declared.term.TermOp.TheVariants.{Equal, Add, Sub, Mul, And, Or, Xor, Not, Neg, Shl, ShrUnsigned, ShrSigned, LessUnsigned, LessSigned, AddOverflowsUnsigned, AddOverflowsSigned, SubOverflowsUnsigned, SubOverflowsSigned, MulOverflowsUnsigned, MulOverflowsSigned, LawfulUnsigned, LawfulSigned}

-- the value of the operation is 0 or 1, with one bit
abbrev pub is_test : TermOp → Bool
is_test Equal = true
is_test LessUnsigned = true
is_test LessSigned = true
is_test AddOverflowsUnsigned = true
is_test AddOverflowsSigned = true
is_test SubOverflowsUnsigned = true
is_test SubOverflowsSigned = true
is_test MulOverflowsUnsigned = true
is_test MulOverflowsSigned = true
is_test LawfulUnsigned = true
is_test LawfulSigned = true
is_test _ = false

-- the operation looks at its second operand
abbrev pub is_binary : TermOp → Bool
is_binary Not = false
is_binary Neg = false
is_binary _ = true

-- the operation is a shift, whose amount may have any width
abbrev pub is_shift : TermOp → Bool
is_shift Shl = true
is_shift ShrUnsigned = true
is_shift ShrSigned = true
is_shift _ = false

-- the operands of the operation may change places
abbrev pub is_commutative : TermOp → Bool
is_commutative Equal = true
is_commutative Add = true
is_commutative Mul = true
is_commutative And = true
is_commutative Or = true
is_commutative Xor = true
is_commutative AddOverflowsUnsigned = true
is_commutative AddOverflowsSigned = true
is_commutative MulOverflowsUnsigned = true
is_commutative MulOverflowsSigned = true
is_commutative _ = false

-- the operation with one constant after another is that with both at once
abbrev pub is_associative : TermOp → Bool
is_associative Add = true
is_associative Mul = true
is_associative And = true
is_associative Xor = true
is_associative _ = false

-- two results with one second operand are equal where the first operands are
abbrev pub is_cancelling : TermOp → Bool
is_cancelling Add = true
is_cancelling Sub = true
is_cancelling Xor = true
is_cancelling _ = false

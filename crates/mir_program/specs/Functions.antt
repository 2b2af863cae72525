-- Well-made functions: what each function that a text means is to keep.
use Rattle.std.specs.Prelude.{◌≡◌, ℕ, ◌<◌, ◌≤◌, Bool, ◌==◌, List, [], ◌∷◌, ◌++◌, All, flat_map, length}
use Rattle.mir_ir.specs.declared.tree.Block.{Block}
use Rattle.mir_ir.specs.declared.tree.Constant.{Constant}
use Rattle.mir_ir.specs.declared.tree.Constant.TheVariants as constant
use Rattle.mir_ir.specs.declared.tree.Function.{Function}
use Rattle.mir_ir.specs.declared.tree.Local.{Local}
use Rattle.mir_ir.specs.declared.tree.NamedOperand.{NamedOperand}
use Rattle.mir_ir.specs.declared.tree.Operand.{Operand}
use Rattle.mir_ir.specs.declared.tree.Operand.TheVariants as operand
use Rattle.mir_ir.specs.declared.tree.Rvalue.{Rvalue}
use Rattle.mir_ir.specs.declared.tree.Rvalue.TheVariants as rvalue
use Rattle.mir_ir.specs.declared.tree.Statement.{Statement}
use Rattle.mir_ir.specs.declared.tree.Statement.TheVariants as statement
use Rattle.mir_ir.specs.declared.tree.Terminator.{Terminator}
use Rattle.mir_ir.specs.declared.tree.Terminator.TheVariants as terminator
use Rattle.mir_ir.specs.Integers.{width_of}
use Rattle.mir_program.specs.Apart.{AreApart, IsCountable}
use Rattle.mir_program.specs.Numbers.{HasBits, IsCharacter}

-- Operands, from left to right.

abbrev pub named_operand : NamedOperand → List Operand
named_operand f = f.operand ∷ []

abbrev pub rvalue_operands : Rvalue → List Operand
rvalue_operands (rvalue.Use o) = o ∷ []
rvalue_operands (rvalue.Cast o t kind) = o ∷ []
rvalue_operands (rvalue.Binary op a b) = a ∷ b ∷ []
rvalue_operands (rvalue.Not o) = o ∷ []
rvalue_operands (rvalue.Neg o) = o ∷ []
rvalue_operands (rvalue.PtrMetadata o) = o ∷ []
rvalue_operands (rvalue.RefOf mutable p) = []
rvalue_operands (rvalue.RawOf mutable p) = []
rvalue_operands (rvalue.Discriminant p) = []
rvalue_operands (rvalue.Len p) = []
rvalue_operands (rvalue.SizeOf t) = []
rvalue_operands (rvalue.AlignOf t) = []
rvalue_operands (rvalue.Array operands) = operands
rvalue_operands (rvalue.Repeat o count) = o ∷ []
rvalue_operands (rvalue.Tuple operands) = operands
rvalue_operands (rvalue.PathUnit path) = []
rvalue_operands (rvalue.PathTuple path operands) = operands
rvalue_operands (rvalue.PathFields path fields) = flat_map named_operand fields

abbrev pub statement_operands : Statement → List Operand
statement_operands (statement.Assign p value) = rvalue_operands value
statement_operands (statement.StorageLive l) = []
statement_operands (statement.StorageDead l) = []
statement_operands (statement.SetVariant p variant) = []

abbrev pub terminator_operands : Terminator → List Operand
terminator_operands (terminator.Goto target) = []
terminator_operands (terminator.Switch o arms otherwise) = o ∷ []
terminator_operands terminator.Return = []
terminator_operands terminator.Unreachable = []
terminator_operands (terminator.Drop p next) = []
terminator_operands (terminator.Assert o expected text shown next) = o ∷ shown
terminator_operands (terminator.Call p callee arguments next) = arguments

abbrev pub block_operands : Block → List Operand
block_operands b = flat_map statement_operands b.statements ++ terminator_operands b.terminator

-- a typed number is one of its type, and a character a Unicode scalar value
abbrev pub IsConstant : Constant → Type 0
IsConstant (constant.Integer i w) = HasBits (width_of i) w
IsConstant (constant.Char c) = IsCharacter c
IsConstant _ = Unit {0}

abbrev pub IsOperand : Operand → Type 0
IsOperand (operand.Copy p) = Unit {0}
IsOperand (operand.Move p) = Unit {0}
IsOperand (operand.Const c) = IsConstant c

pub record IsBlock (b : Block) : Type 0 where
  pub number : b.id.0 ≤ 4095
  pub statements : IsCountable b.statements
  pub operands : IsCountable (block_operands b)
  pub constants : All IsOperand (block_operands b)

-- Locals: the parameters in the order of the text, then _0, then the others by number.

abbrev pub RiseFrom : ℕ → List Local → Type 0
RiseFrom n [] = Unit {0}
RiseFrom n (l ∷ ls) = (n < l.id.0) × RiseFrom l.id.0 ls

abbrev pub same_local : Local → Local → Bool
same_local a b = a.id.0 == b.id.0

abbrev pub IsLocal : Local → Type 0
IsLocal l = l.id.0 ≤ 4095

pub record AreLocals (count : ℕ) (locals : List Local) : Type 0 where
  pub parameters : List Local
  pub returned : Local
  pub others : List Local
  pub in_order : locals ≡ parameters ++ returned ∷ others
  pub counted : length parameters ≡ count
  pub is_zero : returned.id.0 ≡ 0
  pub rising : RiseFrom 0 others
  pub apart : AreApart same_local locals
  pub numbers : All IsLocal locals

abbrev pub same_block : Block → Block → Bool
same_block a b = a.id.0 == b.id.0

-- no two blocks and no two locals have one number
pub record IsFunction (f : Function) : Type 0 where
  pub locals : AreLocals f.parameters f.locals
  pub apart : AreApart same_block f.blocks
  pub blocks : All IsBlock f.blocks

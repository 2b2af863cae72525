-- The canonical text of rvalues.
use Rattle.std.specs.Prelude.{ℕ, Bool, true, false, List, [], ◌∷◌, ◌++◌, codes}
use Rattle.std.specs.Fmt.{decimal}
use Rattle.mir_ir.specs.declared.tree.CastKind.{CastKind}
use Rattle.mir_ir.specs.declared.tree.CastKind.TheVariants as kind
use Rattle.mir_ir.specs.declared.tree.BinaryOp.{BinaryOp}
use Rattle.mir_ir.specs.declared.tree.NamedOperand.{NamedOperand}
use Rattle.mir_ir.specs.declared.tree.Operand.{Operand}
use Rattle.mir_ir.specs.declared.tree.Rvalue.{Rvalue}
use Rattle.mir_ir.specs.declared.tree.Rvalue.TheVariants as rvalue
use Rattle.mir_ir.specs.declared.types.Ty.{Ty}
use Rattle.mir_ir.specs.Names.{name_of_binary}
use Rattle.canonical_text.specs.declared.positions.Position.TheVariants.{AsValue}
use Rattle.canonical_text.specs.Names.{path_written}
use Rattle.canonical_text.specs.Types.{reference_word, type_text}
use Rattle.canonical_text.specs.Places.{place_text}
use Rattle.canonical_text.specs.Operands.{operand_text, operands_text}

abbrev pub kind_text : CastKind → List ℕ
kind_text kind.IntToInt = codes "IntToInt"
kind_text kind.PtrToPtr = codes "PtrToPtr"
kind_text kind.Unsize = codes "PointerCoercion(Unsize)"
kind_text kind.MutToConstPointer = codes "PointerCoercion(MutToConstPointer)"

-- `copy _1 as u8 (IntToInt)`
unfoldable pub cast_text : Operand → Ty → CastKind → List ℕ
cast_text o t k = operand_text o ++ codes " as " ++ type_text t ++ codes " (" ++ kind_text k ++ codes ")"

-- `Add(copy _1, copy _2)`
unfoldable pub binary_text : BinaryOp → Operand → Operand → List ℕ
binary_text op a b = name_of_binary op ++ codes "(" ++ operand_text a ++ codes ", " ++ operand_text b ++ codes ")"

-- a word and what it is of, in parentheses
unfoldable pub applied : List ℕ → List ℕ → List ℕ
applied word inner = word ++ codes "(" ++ inner ++ codes ")"

abbrev pub raw_word : Bool → List ℕ
raw_word true = codes "&raw mut "
raw_word false = codes "&raw const "

unfoldable pub in_brackets : List ℕ → List ℕ
in_brackets inner = codes "[" ++ inner ++ codes "]"

unfoldable pub repeat_text : Operand → ℕ → List ℕ
repeat_text o count = codes "[" ++ operand_text o ++ codes "; " ++ decimal count ++ codes "]"

-- a tuple of one operand has a comma behind it
abbrev pub comma_of_one_operand : List Operand → List ℕ
comma_of_one_operand [] = []
comma_of_one_operand (o ∷ []) = codes ","
comma_of_one_operand (o ∷ p ∷ more) = []

unfoldable pub tuple_text : List Operand → List ℕ
tuple_text operands = codes "(" ++ operands_text operands ++ comma_of_one_operand operands ++ codes ")"

unfoldable pub field_text : NamedOperand → List ℕ
field_text f = f.name ++ codes ": " ++ operand_text f.operand

abbrev pub more_fields : List NamedOperand → List ℕ
more_fields [] = []
more_fields (f ∷ fs) = codes ", " ++ field_text f ++ more_fields fs

-- ` x: a, y: b`, with the blank before it, and nothing where there is no field
abbrev pub fields_text : List NamedOperand → List ℕ
fields_text [] = []
fields_text (f ∷ fs) = codes " " ++ field_text f ++ more_fields fs

-- `S { x: a, y: b }`, and `S { }` without fields
unfoldable pub aggregate_text : List ℕ → List NamedOperand → List ℕ
aggregate_text path fields = path_written AsValue path ++ codes " {" ++ fields_text fields ++ codes " }"

abbrev pub rvalue_text : Rvalue → List ℕ
rvalue_text (rvalue.Use o) = operand_text o
rvalue_text (rvalue.Cast o t k) = cast_text o t k
rvalue_text (rvalue.Binary op a b) = binary_text op a b
rvalue_text (rvalue.Not o) = applied (codes "Not") (operand_text o)
rvalue_text (rvalue.Neg o) = applied (codes "Neg") (operand_text o)
rvalue_text (rvalue.PtrMetadata o) = applied (codes "PtrMetadata") (operand_text o)
rvalue_text (rvalue.RefOf mutable p) = reference_word mutable ++ place_text p
rvalue_text (rvalue.RawOf mutable p) = raw_word mutable ++ place_text p
rvalue_text (rvalue.Discriminant p) = applied (codes "discriminant") (place_text p)
rvalue_text (rvalue.Len p) = applied (codes "Len") (place_text p)
rvalue_text (rvalue.SizeOf t) = applied (codes "SizeOf") (type_text t)
rvalue_text (rvalue.AlignOf t) = applied (codes "AlignOf") (type_text t)
rvalue_text (rvalue.Array operands) = in_brackets (operands_text operands)
rvalue_text (rvalue.Repeat o count) = repeat_text o count
rvalue_text (rvalue.Tuple operands) = tuple_text operands
rvalue_text (rvalue.PathUnit path) = path_written AsValue path
rvalue_text (rvalue.PathTuple path operands) = applied (path_written AsValue path) (operands_text operands)
rvalue_text (rvalue.PathFields path fields) = aggregate_text path fields

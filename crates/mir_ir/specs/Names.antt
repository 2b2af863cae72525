-- The words that the text has for integer types and operators, and which word is which.
use Rattle.std.specs.Prelude.{ℕ, Bool, List, [], ◌∷◌, Option, find, codes}
use Rattle.std.specs.Str.{bytes_eq}
use Rattle.mir_ir.specs.declared.types.IntTy.{IntTy}
use Rattle.mir_ir.specs.declared.types.IntTy.TheVariants as int
use Rattle.mir_ir.specs.declared.tree.BinaryOp.{BinaryOp}
use Rattle.mir_ir.specs.declared.tree.BinaryOp.TheVariants as op

unfoldable pub name_of_int : IntTy → List ℕ
name_of_int int.I8 = codes "i8"
name_of_int int.I16 = codes "i16"
name_of_int int.I32 = codes "i32"
name_of_int int.I64 = codes "i64"
name_of_int int.I128 = codes "i128"
name_of_int int.Isize = codes "isize"
name_of_int int.U8 = codes "u8"
name_of_int int.U16 = codes "u16"
name_of_int int.U32 = codes "u32"
name_of_int int.U64 = codes "u64"
name_of_int int.U128 = codes "u128"
name_of_int int.Usize = codes "usize"

unfoldable pub is_int_named : List ℕ → IntTy → Bool
is_int_named name i = bytes_eq name (name_of_int i)

abbrev pub all_ints : List IntTy
all_ints = int.I8 ∷ int.I16 ∷ int.I32 ∷ int.I64 ∷ int.I128 ∷ int.Isize ∷ int.U8 ∷ int.U16 ∷ int.U32 ∷ int.U64 ∷ int.U128 ∷ int.Usize ∷ []

-- the integer type of this name, where it is one's
abbrev pub int_of_name : List ℕ → Option IntTy
int_of_name name = find (λ i. is_int_named name i) all_ints

unfoldable pub name_of_binary : BinaryOp → List ℕ
name_of_binary op.Add = codes "Add"
name_of_binary op.Sub = codes "Sub"
name_of_binary op.Mul = codes "Mul"
name_of_binary op.Div = codes "Div"
name_of_binary op.Rem = codes "Rem"
name_of_binary op.BitXor = codes "BitXor"
name_of_binary op.BitAnd = codes "BitAnd"
name_of_binary op.BitOr = codes "BitOr"
name_of_binary op.Shl = codes "Shl"
name_of_binary op.Shr = codes "Shr"
name_of_binary op.Eq = codes "Eq"
name_of_binary op.Lt = codes "Lt"
name_of_binary op.Le = codes "Le"
name_of_binary op.Ne = codes "Ne"
name_of_binary op.Ge = codes "Ge"
name_of_binary op.Gt = codes "Gt"
name_of_binary op.Offset = codes "Offset"
name_of_binary op.AddWithOverflow = codes "AddWithOverflow"
name_of_binary op.SubWithOverflow = codes "SubWithOverflow"
name_of_binary op.MulWithOverflow = codes "MulWithOverflow"

unfoldable pub is_binary_named : List ℕ → BinaryOp → Bool
is_binary_named name o = bytes_eq name (name_of_binary o)

abbrev pub all_binaries : List BinaryOp
all_binaries = op.Add ∷ op.Sub ∷ op.Mul ∷ op.Div ∷ op.Rem ∷ op.BitXor ∷ op.BitAnd ∷ op.BitOr ∷ op.Shl ∷ op.Shr ∷ op.Eq ∷ op.Lt ∷ op.Le ∷ op.Ne ∷ op.Ge ∷ op.Gt ∷ op.Offset
    ∷ op.AddWithOverflow ∷ op.SubWithOverflow ∷ op.MulWithOverflow ∷ []

-- the operator of this name, where it is one's
abbrev pub binary_of_name : List ℕ → Option BinaryOp
binary_of_name name = find (λ o. is_binary_named name o) all_binaries

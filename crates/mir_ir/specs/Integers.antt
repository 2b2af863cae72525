-- The integer types of Rust: how many bits each has, and whether it has a sign. `isize` and `usize` have 64 bits.
use Rattle.std.specs.Prelude.{ℕ, Bool, true, false}
use Rattle.mir_ir.specs.declared.types.IntTy.{IntTy}
use Rattle.mir_ir.specs.declared.types.IntTy.TheVariants as int

abbrev pub width_of : IntTy → ℕ
width_of int.I8 = 8
width_of int.I16 = 16
width_of int.I32 = 32
width_of int.I64 = 64
width_of int.I128 = 128
width_of int.Isize = 64
width_of int.U8 = 8
width_of int.U16 = 16
width_of int.U32 = 32
width_of int.U64 = 64
width_of int.U128 = 128
width_of int.Usize = 64

abbrev pub is_signed : IntTy → Bool
is_signed int.I8 = true
is_signed int.I16 = true
is_signed int.I32 = true
is_signed int.I64 = true
is_signed int.I128 = true
is_signed int.Isize = true
is_signed int.U8 = false
is_signed int.U16 = false
is_signed int.U32 = false
is_signed int.U64 = false
is_signed int.U128 = false
is_signed int.Usize = false

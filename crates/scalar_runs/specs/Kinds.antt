-- What a local of a scalar type holds: a word of as many bits as the type has, or no bytes at all.
use Rattle.std.specs.Prelude.{ℕ, ◌^◌, Bool, true, false, ◌&&◌, ◌||◌, ◌==◌, nat_lt, nat_le, [], Option, Some, None}
use Rattle.word_bits.specs.declared.word.Word.{Word}
use Rattle.mir_ir.specs.declared.types.IntTy.{IntTy}
use Rattle.mir_ir.specs.declared.types.IntTy.TheVariants as int
use Rattle.mir_ir.specs.declared.types.Ty.{Ty, out-Ty}
use Rattle.mir_ir.specs.declared.types.Ty.TheOpen.{Ty-F}
use Rattle.mir_ir.specs.Integers.{width_of, is_signed}
use Rattle.scalar_runs.specs.declared.kinds.Choice.{Choice}
use Rattle.scalar_runs.specs.declared.kinds.ValueKind.{ValueKind}
use Rattle.scalar_runs.specs.declared.kinds.ValueKind.TheVariants as kind

-- the kind of a type, by its outermost form; a tuple of no items is ()
abbrev pub kind_of_form : Ty-F Ty → Option ValueKind
kind_of_form Ty-F.Bool = Some kind.Bool
kind_of_form Ty-F.Char = Some kind.Char
kind_of_form (Ty-F.Int i) = Some (kind.Int i)
kind_of_form Ty-F.Never = Some kind.Never
kind_of_form (Ty-F.Tuple []) = Some kind.Unit
kind_of_form _ = None

abbrev pub kind_of : Ty → Option ValueKind
kind_of t = kind_of_form (out-Ty t)

-- how many bits a value has; () and ! have no bytes, and the bit 0 stands for what a read of them gives
abbrev pub width_of_kind : ValueKind → ℕ
width_of_kind kind.Bool = 1
width_of_kind kind.Char = 32
width_of_kind (kind.Int i) = width_of i
width_of_kind kind.Unit = 1
width_of_kind kind.Never = 1

-- a value of the kind is a number with a sign
abbrev pub is_signed_kind : ValueKind → Bool
is_signed_kind (kind.Int i) = is_signed i
is_signed_kind _ = false

-- a value of the kind has bytes
abbrev pub has_bytes : ValueKind → Bool
has_bytes kind.Unit = false
has_bytes kind.Never = false
has_bytes _ = true

-- a word of 1 to 128 bits, whose number is below the power of two
abbrev pub is_word : Word → Bool
is_word w = nat_le 1 w.width && nat_le w.width 128 && nat_lt w.value (2 ^ w.width)

-- a Unicode scalar value
abbrev pub is_scalar_value : ℕ → Bool
is_scalar_value n = nat_lt n 55296 || (nat_lt 57343 n && nat_lt n 1114112)

-- the word is a value of the kind: each pattern of its bits is one, but for a character
abbrev pub is_value : ValueKind → Word → Bool
is_value kind.Char w = w.width == 32 && is_word w && is_scalar_value w.value
is_value k w = w.width == width_of_kind k && is_word w

abbrev pub same_int : IntTy → IntTy → Bool
same_int int.I8 int.I8 = true
same_int int.I16 int.I16 = true
same_int int.I32 int.I32 = true
same_int int.I64 int.I64 = true
same_int int.I128 int.I128 = true
same_int int.Isize int.Isize = true
same_int int.U8 int.U8 = true
same_int int.U16 int.U16 = true
same_int int.U32 int.U32 = true
same_int int.U64 int.U64 = true
same_int int.U128 int.U128 = true
same_int int.Usize int.Usize = true
same_int _ _ = false

abbrev pub same_kind : ValueKind → ValueKind → Bool
same_kind kind.Bool kind.Bool = true
same_kind kind.Char kind.Char = true
same_kind (kind.Int i) (kind.Int j) = same_int i j
same_kind kind.Unit kind.Unit = true
same_kind kind.Never kind.Never = true
same_kind _ _ = false

-- the choice is a value of the kind
abbrev pub is_choice_of : ValueKind → Choice → Bool
is_choice_of k c = same_kind k c.kind && is_value k c.word

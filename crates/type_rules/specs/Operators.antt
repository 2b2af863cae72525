-- What the operators of MIR take and give.
use Rattle.std.specs.Prelude.{Bool, true, false, ◌&&◌, ◌||◌, [], ◌∷◌, Option, Some, None, if◌then◌else◌, option_map}
use Rattle.mir_ir.specs.declared.types.IntTy.{IntTy}
use Rattle.mir_ir.specs.declared.types.IntTy.TheVariants as int
use Rattle.mir_ir.specs.declared.types.Ty.{Ty, out-Ty}
use Rattle.mir_ir.specs.declared.types.Ty.TheOpen.{Ty-F}
use Rattle.mir_ir.specs.declared.types.Ty.TheVariants as ty
use Rattle.mir_ir.specs.declared.tree.BinaryOp.{BinaryOp}
use Rattle.mir_ir.specs.declared.tree.BinaryOp.TheVariants as op
use Rattle.mir_ir.specs.Integers.{is_signed}
use Rattle.type_rules.specs.declared.types.Scalar.{Scalar}
use Rattle.type_rules.specs.declared.types.Scalar.TheVariants as scalar
use Rattle.type_rules.specs.declared.types.PointerKind.{PointerKind}
use Rattle.type_rules.specs.declared.types.PointerKind.TheVariants as pointer
use Rattle.type_rules.specs.Types.{PointerType, is_sized, pointer_of, same_bool, same_int, same_type, scalar_of}

-- two integers of one type
abbrev pub integers : Option Scalar → Option Scalar → Option IntTy
integers (Some (scalar.Int i)) (Some (scalar.Int j)) = if same_int i j then Some i else None
integers _ _ = None

-- arithmetic takes two integers of one type and gives that type
abbrev pub arithmetic_type : Option Scalar → Option Scalar → Option Ty
arithmetic_type a b = option_map (λ i. ty.Int i) (integers a b)

-- the forms that tell whether the value wrapped give a bool besides
abbrev pub overflow_type : IntTy → Ty
overflow_type i = ty.Tuple (ty.Int i ∷ ty.Bool ∷ [])

abbrev pub wrapping_type : Option Scalar → Option Scalar → Option Ty
wrapping_type a b = option_map overflow_type (integers a b)

-- two integers of one type, or two bools
abbrev pub bits_type : Option Scalar → Option Scalar → Option Ty
bits_type (Some scalar.Bool) (Some scalar.Bool) = Some ty.Bool
bits_type a b = arithmetic_type a b

-- two integers; the left one is shifted
abbrev pub shift_type : Option Scalar → Option Scalar → Option Ty
shift_type (Some (scalar.Int i)) (Some (scalar.Int j)) = Some (ty.Int i)
shift_type _ _ = None

abbrev pub is_raw : PointerKind → Bool
is_raw (pointer.Raw mutable) = true
is_raw _ = false

-- a raw pointer that carries no length and no vtable
abbrev pub is_thin_raw : Option PointerType → Bool
is_thin_raw (Some p) = is_raw p.kind && is_sized p.target
is_thin_raw None = false

abbrev pub same_raw : PointerKind → PointerKind → Bool
same_raw (pointer.Raw m) (pointer.Raw n) = same_bool m n
same_raw _ _ = false

-- two thin raw pointers of one type
abbrev pub same_pointers : Option PointerType → Option PointerType → Bool
same_pointers (Some p) (Some q) = same_raw p.kind q.kind && (is_sized p.target && same_type p.target q.target)
same_pointers _ _ = false

-- two integers of one type, two bools or two chars
abbrev pub same_scalars : Option Scalar → Option Scalar → Bool
same_scalars (Some scalar.Bool) (Some scalar.Bool) = true
same_scalars (Some scalar.Char) (Some scalar.Char) = true
same_scalars (Some (scalar.Int i)) (Some (scalar.Int j)) = same_int i j
same_scalars _ _ = false

-- a comparison of two scalars or two thin raw pointers of one type gives a bool
abbrev pub comparison_type : Ty → Ty → Option Ty
comparison_type s t = if same_scalars (scalar_of s) (scalar_of t) || same_pointers (pointer_of s) (pointer_of t) then Some ty.Bool else None

abbrev pub is_distance : Option Scalar → Bool
is_distance (Some (scalar.Int i)) = same_int i int.Usize || same_int i int.Isize
is_distance _ = false

-- a thin raw pointer, moved by so many targets, which a usize or an isize counts
abbrev pub offset_type : Ty → Ty → Option Ty
offset_type s t = if is_thin_raw (pointer_of s) && is_distance (scalar_of t) then Some s else None

-- what an operator of two operands gives; none where it does not take these
abbrev pub binary_type : BinaryOp → Ty → Ty → Option Ty
binary_type op.Add s t = arithmetic_type (scalar_of s) (scalar_of t)
binary_type op.Sub s t = arithmetic_type (scalar_of s) (scalar_of t)
binary_type op.Mul s t = arithmetic_type (scalar_of s) (scalar_of t)
binary_type op.Div s t = arithmetic_type (scalar_of s) (scalar_of t)
binary_type op.Rem s t = arithmetic_type (scalar_of s) (scalar_of t)
binary_type op.BitXor s t = bits_type (scalar_of s) (scalar_of t)
binary_type op.BitAnd s t = bits_type (scalar_of s) (scalar_of t)
binary_type op.BitOr s t = bits_type (scalar_of s) (scalar_of t)
binary_type op.Shl s t = shift_type (scalar_of s) (scalar_of t)
binary_type op.Shr s t = shift_type (scalar_of s) (scalar_of t)
binary_type op.Eq s t = comparison_type s t
binary_type op.Lt s t = comparison_type s t
binary_type op.Le s t = comparison_type s t
binary_type op.Ne s t = comparison_type s t
binary_type op.Ge s t = comparison_type s t
binary_type op.Gt s t = comparison_type s t
binary_type op.Offset s t = offset_type s t
binary_type op.AddWithOverflow s t = wrapping_type (scalar_of s) (scalar_of t)
binary_type op.SubWithOverflow s t = wrapping_type (scalar_of s) (scalar_of t)
binary_type op.MulWithOverflow s t = wrapping_type (scalar_of s) (scalar_of t)

-- `Not` takes an integer or a bool
abbrev pub not_type : Option Scalar → Option Ty
not_type (Some scalar.Bool) = Some ty.Bool
not_type (Some (scalar.Int i)) = Some (ty.Int i)
not_type _ = None

-- `Neg` takes an integer with a sign
abbrev pub neg_type : Option Scalar → Option Ty
neg_type (Some (scalar.Int i)) = if is_signed i then Some (ty.Int i) else None
neg_type _ = None

abbrev pub is_slice : Ty-F Ty → Bool
is_slice (Ty-F.Slice item) = true
is_slice _ = false

-- `PtrMetadata` takes a pointer to a slice
abbrev pub points_to_slice : Option PointerType → Bool
points_to_slice (Some p) = is_slice (out-Ty p.target)
points_to_slice None = false

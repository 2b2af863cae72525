-- The types of MIR: when two are one, which of them have a size, which are scalars and which point to another.
use Rattle.std.specs.Prelude.{Bool, true, false, ◌&&◌, ◌==◌, List, [], ◌∷◌, Option, Some, None, bytes_eq}
use Rattle.mir_ir.specs.declared.types.IntTy.{IntTy}
use Rattle.mir_ir.specs.declared.types.IntTy.TheVariants as int
use Rattle.mir_ir.specs.declared.types.Ty.{Ty, out-Ty}
use Rattle.mir_ir.specs.declared.types.Ty.TheOpen.{Ty-F}
use Rattle.mir_ir.specs.declared.types.Ty.TheFolds.{fold-Ty}
use Rattle.type_rules.specs.declared.types.Scalar.{Scalar}
use Rattle.type_rules.specs.declared.types.Scalar.TheVariants as scalar
use Rattle.type_rules.specs.declared.types.PointerKind.{PointerKind}
use Rattle.type_rules.specs.declared.types.PointerKind.TheVariants as pointer

abbrev pub same_int : IntTy → IntTy → Bool
same_int int.I8 int.I8 = true
same_int int.I16 int.I16 = true
same_int int.I32 int.I32 = true
same_int int.I64 int.I64 = true
same_int int.I128 int.I128 = true
same_int int.Isize int.Isize = true
same_int int.U8 int.U8 = true
same_int int.U16 int.U16 = true
same_int int.U32 int.U32 = true
same_int int.U64 int.U64 = true
same_int int.U128 int.U128 = true
same_int int.Usize int.Usize = true
same_int _ _ = false

abbrev pub same_bool : Bool → Bool → Bool
same_bool true b = b
same_bool false true = false
same_bool false false = true

-- tests of types, one for each item of a list
abbrev pub all_hold : List (Ty → Bool) → List Ty → Bool
all_hold [] [] = true
all_hold [] (t ∷ ts) = false
all_hold (test ∷ tests) [] = false
all_hold (test ∷ tests) (t ∷ ts) = test t && all_hold tests ts

-- one level of a type against that of another, where each part is the test of being that part
abbrev pub same_level : Ty-F (Ty → Bool) → Ty-F Ty → Bool
same_level Ty-F.Bool Ty-F.Bool = true
same_level Ty-F.Char Ty-F.Char = true
same_level (Ty-F.Int i) (Ty-F.Int j) = same_int i j
same_level Ty-F.Never Ty-F.Never = true
same_level Ty-F.Str Ty-F.Str = true
same_level (Ty-F.Tuple tests) (Ty-F.Tuple items) = all_hold tests items
same_level (Ty-F.Array test n) (Ty-F.Array item m) = n == m && test item
same_level (Ty-F.Slice test) (Ty-F.Slice item) = test item
same_level (Ty-F.Ref m test) (Ty-F.Ref n target) = same_bool m n && test target
same_level (Ty-F.Raw m test) (Ty-F.Raw n target) = same_bool m n && test target
same_level (Ty-F.BoxOf test) (Ty-F.BoxOf target) = test target
same_level (Ty-F.Dyn p) (Ty-F.Dyn q) = bytes_eq p q
same_level (Ty-F.Named p) (Ty-F.Named q) = bytes_eq p q
same_level _ _ = false

abbrev pub same_step : Ty-F (Ty → Bool) → Ty → Bool
same_step level other = same_level level (out-Ty other)

-- two types are one where they are of one form, with the same parts, words and numbers
unfoldable pub same_type : Ty → Ty → Bool
same_type = fold-Ty (Ty → Bool) same_step

abbrev pub same_types : List Ty → List Ty → Bool
same_types [] [] = true
same_types [] (b ∷ bs) = false
same_types (a ∷ more) [] = false
same_types (a ∷ more) (b ∷ bs) = same_type a b && same_types more bs

-- a slice, a `dyn` value and a `str` have no size of their own
abbrev pub is_sized_form : Ty-F Ty → Bool
is_sized_form (Ty-F.Slice item) = false
is_sized_form (Ty-F.Dyn path) = false
is_sized_form Ty-F.Str = false
is_sized_form _ = true

abbrev pub is_sized : Ty → Bool
is_sized t = is_sized_form (out-Ty t)

-- integers, `bool` and `char`
abbrev pub scalar_form : Ty-F Ty → Option Scalar
scalar_form Ty-F.Bool = Some scalar.Bool
scalar_form Ty-F.Char = Some scalar.Char
scalar_form (Ty-F.Int i) = Some (scalar.Int i)
scalar_form _ = None

abbrev pub scalar_of : Ty → Option Scalar
scalar_of t = scalar_form (out-Ty t)

-- a reference, a raw pointer or a `Box`, and what it points to
pub record PointerType : Type 0 where
  pub kind : PointerKind
  pub target : Ty

abbrev pub pointer_form : Ty-F Ty → Option PointerType
pointer_form (Ty-F.Ref mutable target) = Some (record { kind = pointer.Ref mutable; target = target })
pointer_form (Ty-F.Raw mutable target) = Some (record { kind = pointer.Raw mutable; target = target })
pointer_form (Ty-F.BoxOf target) = Some (record { kind = pointer.Owner; target = target })
pointer_form _ = None

abbrev pub pointer_of : Ty → Option PointerType
pointer_of t = pointer_form (out-Ty t)

-- an array or a slice, and the type of its items
abbrev pub item_form : Ty-F Ty → Option Ty
item_form (Ty-F.Array item count) = Some item
item_form (Ty-F.Slice item) = Some item
item_form _ = None

abbrev pub item_of : Ty → Option Ty
item_of t = item_form (out-Ty t)

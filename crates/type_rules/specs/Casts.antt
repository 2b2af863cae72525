-- Which types a cast leads from and to.
use Rattle.std.specs.Prelude.{ℕ, Bool, true, false, ◌&&◌, List, Option, Some, Ok, is_some, bytes_eq}
use Rattle.mir_ir.specs.declared.types.IntTy.TheVariants as int
use Rattle.mir_ir.specs.declared.types.Ty.{Ty, out-Ty}
use Rattle.mir_ir.specs.declared.types.Ty.TheOpen.{Ty-F}
use Rattle.mir_ir.specs.declared.tree.CastKind.{CastKind}
use Rattle.mir_ir.specs.declared.tree.CastKind.TheVariants as cast
use Rattle.mir_ir.specs.declared.declarations.Declarations.{Declarations}
use Rattle.type_rules.specs.declared.refusal.TypeKind.TheVariants as kind
use Rattle.type_rules.specs.declared.types.PointerKind.{PointerKind}
use Rattle.type_rules.specs.declared.types.PointerKind.TheVariants as pointer
use Rattle.type_rules.specs.declared.types.Scalar.{Scalar}
use Rattle.type_rules.specs.declared.types.Scalar.TheVariants as scalar
use Rattle.type_rules.specs.Refusals.{OrRefused, ◌>>◌, check}
use Rattle.type_rules.specs.Types.{PointerType, is_sized, pointer_of, same_bool, same_int, same_type, scalar_of}
use Rattle.type_rules.specs.Lookup.{knows_traits, vtable_for}

-- to an integer from an integer, a bool or a char, and to a char from a u8
abbrev pub is_number_cast : Option Scalar → Option Scalar → Bool
is_number_cast (Some from) (Some (scalar.Int j)) = true
is_number_cast (Some (scalar.Int i)) (Some scalar.Char) = same_int i int.U8
is_number_cast _ _ = false

-- a pointer to it carries a length
abbrev pub has_length : Ty-F Ty → Bool
has_length (Ty-F.Slice item) = true
has_length Ty-F.Str = true
has_length _ = false

-- a pointer to it carries a vtable of this trait
abbrev pub is_dyn_of : List ℕ → Ty-F Ty → Bool
is_dyn_of path (Ty-F.Dyn own) = bytes_eq path own
is_dyn_of path _ = false

-- a thin pointer comes from each raw pointer, and a wide one from one that carries the same
abbrev pub keeps_metadata : Ty-F Ty → Ty-F Ty → Bool
keeps_metadata from (Ty-F.Slice item) = has_length from
keeps_metadata from Ty-F.Str = has_length from
keeps_metadata from (Ty-F.Dyn path) = is_dyn_of path from
keeps_metadata from _ = true

abbrev pub are_raw : PointerKind → PointerKind → Bool
are_raw (pointer.Raw m) (pointer.Raw n) = true
are_raw _ _ = false

-- between raw pointers
abbrev pub is_raw_cast : Option PointerType → Option PointerType → Bool
is_raw_cast (Some p) (Some q) = are_raw p.kind q.kind && keeps_metadata (out-Ty p.target) (out-Ty q.target)
is_raw_cast _ _ = false

abbrev pub is_const_pair : PointerKind → PointerKind → Bool
is_const_pair (pointer.Raw true) (pointer.Raw false) = true
is_const_pair _ _ = false

-- from `*mut T` to `*const T`
abbrev pub is_const_cast : Option PointerType → Option PointerType → Bool
is_const_cast (Some p) (Some q) = is_const_pair p.kind q.kind && same_type p.target q.target
is_const_cast _ _ = false

-- a reference, or a raw pointer, and the same again
abbrev pub is_borrowed_pair : PointerKind → PointerKind → Bool
is_borrowed_pair (pointer.Ref m) (pointer.Ref n) = same_bool m n
is_borrowed_pair (pointer.Raw m) (pointer.Raw n) = same_bool m n
is_borrowed_pair _ _ = false

-- a reference, a raw pointer or a Box, and the same again
abbrev pub is_same_pair : PointerKind → PointerKind → Bool
is_same_pair pointer.Owner pointer.Owner = true
is_same_pair p q = is_borrowed_pair p q

abbrev pub is_array_of : Ty → Ty-F Ty → Bool
is_array_of item (Ty-F.Array own count) = same_type own item
is_array_of item _ = false

-- from an array to a slice of its items, behind a reference or raw pointer, and from a sized type to a `dyn` type, behind a Box too
abbrev pub unsizes_to : PointerType → PointerType → Ty-F Ty → Bool
unsizes_to p q (Ty-F.Slice item) = is_borrowed_pair p.kind q.kind && is_array_of item (out-Ty p.target)
unsizes_to p q (Ty-F.Dyn path) = is_same_pair p.kind q.kind && is_sized p.target
unsizes_to p q _ = false

abbrev pub is_unsizing : Option PointerType → Option PointerType → Bool
is_unsizing (Some p) (Some q) = unsizes_to p q (out-Ty q.target)
is_unsizing _ _ = false

abbrev pub is_cast : CastKind → Ty → Ty → Bool
is_cast cast.IntToInt from to = is_number_cast (scalar_of from) (scalar_of to)
is_cast cast.PtrToPtr from to = is_raw_cast (pointer_of from) (pointer_of to)
is_cast cast.Unsize from to = is_unsizing (pointer_of from) (pointer_of to)
is_cast cast.MutToConstPointer from to = is_const_cast (pointer_of from) (pointer_of to)

-- what becomes a `dyn` value has a vtable for its trait
abbrev pub target_has_vtable : Declarations → Ty → Ty-F Ty → Bool
target_has_vtable d t (Ty-F.Dyn path) = is_some (vtable_for d t path)
target_has_vtable d t _ = true

abbrev pub has_vtable : Declarations → Option PointerType → Option PointerType → Bool
has_vtable d (Some p) (Some q) = target_has_vtable d p.target (out-Ty q.target)
has_vtable d _ _ = true

abbrev pub has_vtable_for : Declarations → CastKind → Ty → Ty → Bool
has_vtable_for d cast.Unsize from to = has_vtable d (pointer_of from) (pointer_of to)
has_vtable_for d _ from to = true

-- the type that a cast gives is written in it
abbrev pub cast_type : Declarations → CastKind → Ty → Ty → OrRefused Ty
cast_type d how from to =
    check (knows_traits d to) kind.UnknownName >> (check (is_cast how from to) kind.BadCast
    >> (check (has_vtable_for d how from to) kind.UnknownName >> Ok to))

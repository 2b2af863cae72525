-- The parts of array and tuple types.
use Rattle.std.specs.Prelude.{ℕ, Bool, false, ◌&&◌, ◌==◌, List, Option, Some, None}
use Rattle.mir_ir.specs.declared.types.Ty.{Ty}
use Rattle.mir_ir.specs.declared.types.Ty.TheOpen.{Ty-F}
use Rattle.type_rules.specs.Types.{same_type, same_types}

-- an array: the type of its items, and how many there are
pub record ArrayType : Type 0 where
  pub item : Ty
  pub count : ℕ

abbrev pub array_form : Ty-F Ty → Option ArrayType
array_form (Ty-F.Array item count) = Some (record { item = item; count = count })
array_form _ = None

abbrev pub tuple_form : Ty-F Ty → Option (List Ty)
tuple_form (Ty-F.Tuple items) = Some items
tuple_form _ = None

-- an array of so many items of this type
abbrev pub is_array : Ty → ℕ → Option ArrayType → Bool
is_array t n None = false
is_array t n (Some a) = n == a.count && same_type t a.item

-- a tuple of these types
abbrev pub is_tuple : List Ty → Option (List Ty) → Bool
is_tuple ts None = false
is_tuple ts (Some items) = same_types ts items

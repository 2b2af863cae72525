-- The types of a program, each once, and so numbered: `bool`, `char`, the integers, `!` and `()`, and then those that are written in
-- it, in their order.
use Rattle.std.specs.Prelude.{◌≡◌, ℕ, if◌then◌else◌, List, [], ◌∷◌, ◌++◌, Option, Some, None, slice_get}
use Rattle.std.specs.List.{list_any}
use Rattle.mir_ir.specs.declared.types.Ty.{Ty}
use Rattle.mir_ir.specs.declared.types.Ty.TheVariants as ty
use Rattle.mir_ir.specs.declared.types.IntTy.TheVariants as int
use Rattle.mir_program.specs.Joined.{Joined}
use Rattle.type_rules.specs.Types.{same_type}
use Rattle.program_types.specs.Mentioned.{types_written}

-- with one more type, if it is not among them
unfoldable pub with_type : List Ty → Ty → List Ty
with_type types t = if list_any (same_type t) types then types else types ++ t ∷ []

-- with more of them, one by one
abbrev pub with_types : List Ty → List Ty → List Ty
with_types types [] = types
with_types types (t ∷ more) = with_types (with_type types t) more

abbrev pub integer_types : List Ty
integer_types =
    ty.Int int.I8 ∷ ty.Int int.I16 ∷ ty.Int int.I32 ∷ ty.Int int.I64 ∷ ty.Int int.I128 ∷ ty.Int int.Isize
    ∷ ty.Int int.U8 ∷ ty.Int int.U16 ∷ ty.Int int.U32 ∷ ty.Int int.U64 ∷ ty.Int int.U128 ∷ ty.Int int.Usize ∷ []

abbrev pub scalar_types : List Ty
scalar_types = ty.Bool ∷ ty.Char ∷ integer_types ++ ty.Never ∷ ty.Tuple [] ∷ []

unfoldable pub types_of : Joined → List Ty
types_of p = with_types [] (scalar_types ++ types_written p)

-- the type stands at this place, or at none
abbrev pub IsPlaceOf : List Ty → Ty → Option ℕ → Type 0
IsPlaceOf types t None = (k : ℕ) → slice_get types k ≡ Some t → ⊥
IsPlaceOf types t (Some n) = slice_get types n ≡ Some t

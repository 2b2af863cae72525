-- How types are found: the place of each is filed by the number that is told of the type.
use Rattle.std.specs.Prelude.{◌≡◌, ℕ, ◌<◌, ◌%◌, ◌==◌, Bool, true, false, List, [], Option, Some, None, length, slice_get, slice_index_or}
use Rattle.std.specs.List.{list_any}
use Rattle.mir_ir.specs.declared.types.Ty.{Ty}
use Rattle.type_rules.specs.Types.{same_type}
use Rattle.typed_program.specs.Hashes.{hash_of}
use Rattle.typed_program.specs.declared.numbers.Numbers.TheInside.{Inside}

abbrev pub file_at : List (List ℕ) → ℕ → List ℕ
file_at files n = slice_index_or files n []

abbrev pub file_of : List (List ℕ) → Ty → List ℕ
file_of files t = file_at files (hash_of t % length files)

abbrev pub is_in : ℕ → List ℕ → Bool
is_in k file = list_any (λ j. j == k) file

pub record AreFiled (files : List (List ℕ)) (types : List Ty) : Type 0 where
  pub rooms : 0 < length files
  pub filed : (k : ℕ) (t : Ty) → slice_get types k ≡ Some t → is_in k (file_of files t) ≡ true

abbrev pub types_in : Inside → List Ty
types_in n = n.types.items

abbrev pub AreFound : Inside → Type 0
AreFound n = AreFiled n.files n.types.items

abbrev pub is_type : Ty → Option Ty → Bool
is_type t None = false
is_type t (Some u) = same_type t u

-- the type stands there
abbrev pub is_at : List Ty → Ty → ℕ → Bool
is_at types t n = is_type t (slice_get types n)

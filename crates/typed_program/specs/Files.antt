-- Lists of numbers, and one of them with one more.
use Rattle.std.specs.Prelude.{◌≡◌, ℕ, List, [], ◌∷◌, ◌++◌, length, slice_index_or, slice_set}

abbrev pub AreEmpty : ℕ → List (List ℕ) → Type 0
AreEmpty count files = (length files ≡ count) × ((number : ℕ) → slice_index_or files number [] ≡ [])

abbrev pub with_number : List (List ℕ) → ℕ → ℕ → List (List ℕ)
with_number files at number = slice_set files at (slice_index_or files at [] ++ number ∷ [])

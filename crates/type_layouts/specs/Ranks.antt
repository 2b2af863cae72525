-- Numbers for the declared types. Where each is above those of the types that it holds, no type holds itself, and so many levels as
-- there are numbers count all parts. Where none is below those of the types that it holds, a type can hold itself only through one
-- of its own number.
use Rattle.std.specs.Prelude.{◌≡◌, ℕ, ◌+◌, ◌<◌, ◌≤◌, Bool, true, ◌&&◌, nat_lt, nat_le, List, [], ◌∷◌, length, slice_index}
use Rattle.type_layouts.specs.declared.extent.Held.{Held}
use Rattle.type_layouts.specs.declared.outline.Outline.{Outline}
use Rattle.type_layouts.specs.Recursion.{Holds, held_at}

-- the numbers of all that is held are below a limit
abbrev pub are_below : List ℕ → ℕ → List Held → Bool
are_below ranks limit [] = true
are_below ranks limit (h ∷ more) = nat_lt (slice_index ranks h.entry) limit && are_below ranks limit more

-- the number of a type is above those of all that it holds
abbrev pub is_above_at : List Outline → List ℕ → ℕ → Bool
is_above_at outlines ranks i = are_below ranks (slice_index ranks i) (held_at outlines i)

-- the number of a type is below none of those that it holds
abbrev pub is_ordered_at : List Outline → List ℕ → ℕ → Bool
is_ordered_at outlines ranks i = are_below ranks (slice_index ranks i + 1) (held_at outlines i)

-- above them, and from 1 up to the count of types
abbrev pub is_ranked_at : List Outline → List ℕ → ℕ → Bool
is_ranked_at outlines ranks i = nat_lt 0 (slice_index ranks i) && nat_le (slice_index ranks i) (length outlines) && is_above_at outlines ranks i

pub record IsOrdered (outlines : List Outline) (ranks : List ℕ) : Type 0 where
  pub down : (i k : ℕ) → Holds outlines i k → slice_index ranks k ≤ slice_index ranks i

pub record IsRanked (outlines : List Outline) (ranks : List ℕ) : Type 0 where
  pub above : (i k : ℕ) → Holds outlines i k → slice_index ranks k < slice_index ranks i
  pub first : (i : ℕ) → i < length outlines → 0 < slice_index ranks i
  pub last : (i : ℕ) → i < length outlines → slice_index ranks i ≤ length outlines

-- a test passes at each of the first places
pub record PassesBefore (test : ℕ → Bool) (n : ℕ) : Type 0 where
  pub each : (i : ℕ) → i < n → test i ≡ true

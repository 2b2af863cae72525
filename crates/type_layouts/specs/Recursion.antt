-- Declared types that hold themselves.
use Rattle.std.specs.Prelude.{◌≡◌, ℕ, Bool, true, ◌==◌, List, [], ◌∷◌, Option, Some, None, slice_get}
use Rattle.std.specs.List.{list_any}
use Rattle.type_layouts.specs.declared.extent.Held.{Held}
use Rattle.type_layouts.specs.declared.outline.Outline.{Outline}

-- what the declared type at a place holds with no pointer between, in a field or in what a field holds
abbrev pub held_of : Option Outline → List Held
held_of None = []
held_of (Some o) = o.held

abbrev pub held_at : List Outline → ℕ → List Held
held_at outlines i = held_of (slice_get outlines i)

abbrev pub is_held : ℕ → List Held → Bool
is_held k held = list_any (λ h. h.entry == k) held

abbrev pub Holds : List Outline → ℕ → ℕ → Type 0
Holds outlines i k = is_held k (held_at outlines i) ≡ true

-- i holds the first of these, each of them the next, and the last k
abbrev pub Leads : List Outline → ℕ → List ℕ → ℕ → Type 0
Leads outlines i [] k = Holds outlines i k
Leads outlines i (j ∷ more) k = Holds outlines i j × Leads outlines j more k

pub record Reaches (outlines : List Outline) (i k : ℕ) : Type 0 where
  pub path : List ℕ
  pub leads : Leads outlines i path k

-- A type that holds itself. It is a declared one: what is written out holds only shorter types, until a declared one.
abbrev pub IsRecursive : List Outline → ℕ → Type 0
IsRecursive outlines i = Reaches outlines i i

abbrev pub NoneRecursive : List Outline → Type 0
NoneRecursive outlines = (i : ℕ) → IsRecursive outlines i → ⊥

-- The search for declared types that hold themselves: what is marked is reached, and what a marked type holds is marked.
use Rattle.std.specs.Prelude.{◌≡◌, ℕ, ◌<◌, ◌≤◌, Bool, true, List, Option, Some, None, drop, length, ◌⊎◌}
use Rattle.type_layouts.specs.declared.extent.Held.{Held}
use Rattle.type_layouts.specs.declared.outline.Outline.{Outline}
use Rattle.type_layouts.specs.Marks.{IsIn, IsMarked, unmarked}
use Rattle.type_layouts.specs.Recursion.{Holds, IsRecursive, NoneRecursive, Reaches, held_at, is_held}
use Rattle.layout_rules.specs.Rules.{NoneBefore}

-- all that the type holds is marked
abbrev pub IsClosed : List Outline → List Bool → ℕ → Type 0
IsClosed outlines marks j = (k : ℕ) → Holds outlines j k → IsIn marks k

-- marks were added: each for what the type reaches, and what each of these holds is marked
pub record Spread (outlines : List Outline) (j : ℕ) (old new : List Bool) : Type 0 where
  pub kept : (k : ℕ) → IsMarked old k → IsMarked new k
  pub reached : (k : ℕ) → IsMarked new k → IsMarked old k ⊎ Reaches outlines j k
  pub closed : (k : ℕ) → IsMarked new k → IsMarked old k ⊎ IsClosed outlines new k
  pub fewer : unmarked new ≤ unmarked old
  pub as_long : length new ≡ length old

-- and all that the type itself holds is marked
pub record Visited (outlines : List Outline) (j : ℕ) (old new : List Bool) : Type 0 where
  pub spread : Spread outlines j old new
  pub own : IsClosed outlines new j

-- the type is marked too, where there is such a place
pub record Entered (outlines : List Outline) (x : ℕ) (old new : List Bool) : Type 0 where
  pub kept : (k : ℕ) → IsMarked old k → IsMarked new k
  pub reached : (k : ℕ) → IsMarked new k → IsMarked old k ⊎ ((k ≡ x) ⊎ Reaches outlines x k)
  pub closed : (k : ℕ) → IsMarked new k → IsMarked old k ⊎ IsClosed outlines new k
  pub there : IsIn new x
  pub fewer : unmarked new ≤ unmarked old
  pub as_long : length new ≡ length old

-- the search has gone through what the type holds up to a place
pub record Walked (outlines : List Outline) (j : ℕ) (old now : List Bool) (held : List Held) (i : ℕ) : Type 0 where
  pub spread : Spread outlines j old now
  pub begun : (k : ℕ) → Holds outlines j k → IsIn now k ⊎ (is_held k (drop i held) ≡ true)
  pub listed : held ≡ held_at outlines j

-- the first that holds itself, or none does
abbrev pub IsFirstPlace : List Outline → Option ℕ → Type 0
IsFirstPlace outlines None = NoneRecursive outlines
IsFirstPlace outlines (Some place) = (place < length outlines) × IsRecursive outlines place × NoneBefore outlines place

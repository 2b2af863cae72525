-- How many parts types have.
use Rattle.std.specs.Prelude.{ℕ, zero, suc, ◌+◌, ◌*◌, Bool, ◌||◌, nat_lt, List, [], ◌∷◌, length, map, replicate, slice_index}
use Rattle.type_layouts.specs.declared.extent.Extent.{Extent}
use Rattle.type_layouts.specs.declared.extent.Held.{Held}
use Rattle.type_layouts.specs.declared.outline.Outline.{Outline}
use Rattle.type_layouts.specs.Extents.{within_parts}

-- a count, and for each declared type that is held its parts, as the table has them, so often as it is held
abbrev pub counted : List ℕ → ℕ → List Held → ℕ
counted table n [] = n
counted table n (h ∷ more) = counted table (within_parts (n + h.times * slice_index table h.entry)) more

-- the parts of the declared types, from those of one level less
abbrev pub outline_parts : List ℕ → Outline → ℕ
outline_parts table o = counted table o.parts o.held

abbrev pub one_level : List Outline → List ℕ → List ℕ
one_level outlines table = map (outline_parts table) outlines

abbrev pub levels : ℕ → List Outline → List ℕ → List ℕ
levels zero outlines table = table
levels (suc n) outlines table = levels n outlines (one_level outlines table)

-- the parts of each declared type. Where none holds itself, no more levels of them lie in one another than there are types.
unfoldable pub parts_table : List Outline → List ℕ
parts_table outlines = levels (length outlines) outlines (replicate (length outlines) 0)

-- a size above 4,096 bytes or more than 16,384 parts
unfoldable pub is_too_big : List ℕ → Extent → Bool
is_too_big table e = nat_lt 4096 e.size || nat_lt 16384 (counted table e.parts e.held)

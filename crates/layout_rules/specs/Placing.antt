-- The rules on where the fields and the tag of a declared type stand.
use Rattle.std.specs.Prelude.{ℕ, ◌+◌, ◌%◌, ◌<◌, ◌≤◌, Bool, false, not, ◌||◌, ◌==◌, nat_lt, min, max, List, [], ◌∷◌, Option, Some, None}
use Rattle.std.specs.List.{list_any}
use Rattle.type_layouts.specs.declared.outline.Outline.{Outline}
use Rattle.type_layouts.specs.declared.outline.Spot.{Spot}
use Rattle.type_layouts.specs.Extents.{alignment}

-- a multiple of an alignment
abbrev pub is_multiple : ℕ → ℕ → Bool
is_multiple n align = (n % alignment align) == 0

-- a field or a tag that stands at no multiple of its alignment, or whose alignment exceeds the type's
abbrev pub is_spot_misaligned : ℕ → Spot → Bool
is_spot_misaligned align s = not (is_multiple s.offset s.align) || nat_lt (alignment align) (alignment s.align)

-- a field or a tag that ends past the size
abbrev pub is_spot_outside : ℕ → Spot → Bool
is_spot_outside size s = nat_lt size (s.offset + s.size)

-- a byte that a field or a tag takes
abbrev pub Takes : Spot → ℕ → Type 0
Takes s byte = (s.offset ≤ byte) × (byte < s.offset + s.size)

-- some byte lies in both
abbrev pub ShareAByte : Spot → Spot → Type 0
ShareAByte a b = (byte : ℕ) × Takes a byte × Takes b byte

-- the later start lies before the earlier end
abbrev pub share_a_byte : Spot → Spot → Bool
share_a_byte a b = nat_lt (max a.offset b.offset) (min (a.offset + a.size) (b.offset + b.size))

-- two of them share a byte
abbrev pub some_share : List Spot → Bool
some_share [] = false
some_share (s ∷ more) = list_any (share_a_byte s) more || some_share more

abbrev pub tag_passes : (Spot → Bool) → Option Spot → Bool
tag_passes test None = false
tag_passes test (Some tag) = test tag

-- the tag or a field
abbrev pub some_spot : (Spot → Bool) → Outline → Bool
some_spot test o = tag_passes test o.tag || list_any (list_any test) o.groups

-- a size, or the place of a field or tag, that is no multiple of its alignment, or an alignment above that of the type
unfoldable pub is_misaligned : Outline → Bool
is_misaligned o = not (is_multiple o.size o.align) || some_spot (is_spot_misaligned o.align) o

unfoldable pub is_outside : Outline → Bool
is_outside o = some_spot (is_spot_outside o.size) o

abbrev pub with_tag : Option Spot → List Spot → List Spot
with_tag None spots = spots
with_tag (Some tag) spots = tag ∷ spots

-- two fields of a struct or of a variant, or a field and the tag, that share a byte
unfoldable pub is_overlapping : Outline → Bool
is_overlapping o = list_any (λ spots. some_share (with_tag o.tag spots)) o.groups

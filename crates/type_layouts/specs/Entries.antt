-- Which declaration a type has: the first whose name has the type's text.
use Rattle.std.specs.Prelude.{ℕ, suc, cond, bytes_eq, List, [], ◌∷◌, Option, Some, None, slice_get}
use Rattle.mir_ir.specs.declared.declarations.TypeDecl.{TypeDecl}
use Rattle.canonical_text.specs.Types.{type_text}
use Rattle.type_layouts.specs.declared.extent.Extent.{Extent}
use Rattle.type_layouts.specs.Extents.{empty, within_bytes}

-- the place of the first declaration of this name, the first of the list standing at n
abbrev pub entry_from : ℕ → List TypeDecl → List ℕ → Option ℕ
entry_from n [] text = None
entry_from n (own ∷ more) text = cond (bytes_eq text (type_text own.name)) (Some n) (entry_from (suc n) more text)

unfoldable pub entry_of : List TypeDecl → List ℕ → Option ℕ
entry_of types text = entry_from 0 types text

-- a declared type has the size and the alignment that are declared, and lies in itself once
abbrev pub declared_extent : ℕ → Option TypeDecl → Extent
declared_extent n None = empty
declared_extent n (Some own) = record empty {
  size = within_bytes own.size;
  align = own.align;
  parts = 0;
  held = record { entry = n; times = 1 } ∷ [];
}

-- what a type takes: as its declaration says, where it has one
abbrev pub extent_at : List TypeDecl → Option ℕ → Extent → Extent
extent_at types None other = other
extent_at types (Some n) other = declared_extent n (slice_get types n)

abbrev pub extent_named : List TypeDecl → List ℕ → Extent → Extent
extent_named types text other = extent_at types (entry_of types text) other

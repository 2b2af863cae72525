-- Where the fields of a type stand, in bytes from its start, and the tags of its variants.
use Rattle.std.specs.Prelude.{ℕ, List, [], ◌∷◌, Option, Some, None, map, slice_get}
use Rattle.word_bits.specs.declared.word.Word.{Word}
use Rattle.mir_ir.specs.declared.declarations.FieldDecl.{FieldDecl}
use Rattle.mir_ir.specs.declared.declarations.TypeDecl.{TypeDecl}
use Rattle.mir_ir.specs.declared.declarations.TypeShape.{TypeShape}
use Rattle.mir_ir.specs.declared.declarations.TypeShape.TheVariants as shape
use Rattle.mir_ir.specs.declared.declarations.VariantDecl.{VariantDecl}
use Rattle.mir_ir.specs.declared.types.Ty.{Ty, out-Ty}
use Rattle.mir_ir.specs.declared.types.Ty.TheOpen.{Ty-F}
use Rattle.canonical_text.specs.Types.{type_text}
use Rattle.type_layouts.specs.declared.extent.Extent.{Extent}
use Rattle.type_layouts.specs.Entries.{entry_of}
use Rattle.type_layouts.specs.Extents.{behind, empty, rounded_up, within_bytes}
use Rattle.type_layouts.specs.Rows.{extent_of}

-- ---- declared types

abbrev pub field_offset : FieldDecl → ℕ
field_offset f = f.offset

abbrev pub variant_places : VariantDecl → List ℕ
variant_places v = map field_offset v.fields

-- for each variant, the places of its fields. A struct and a tuple have one variant.
abbrev pub shape_places : TypeShape → List (List ℕ)
shape_places (shape.Struct fields) = map field_offset fields ∷ []
shape_places (shape.Tuple fields) = map field_offset fields ∷ []
shape_places (shape.Enum variants tag discriminant) = map variant_places variants

abbrev pub declared_places : Option TypeDecl → List (List ℕ)
declared_places None = []
declared_places (Some own) = shape_places own.shape

abbrev pub variant_tag : VariantDecl → Option Word
variant_tag v = v.tag

-- for each variant, its tag, where the enum has one
abbrev pub shape_tags : TypeShape → List (Option Word)
shape_tags (shape.Struct fields) = []
shape_tags (shape.Tuple fields) = []
shape_tags (shape.Enum variants tag discriminant) = map variant_tag variants

abbrev pub declared_tags : Option TypeDecl → List (Option Word)
declared_tags None = []
declared_tags (Some own) = shape_tags own.shape

-- ---- tuples without a declaration

-- where an item stands behind what stands before it
abbrev pub place_behind : Extent → Extent → ℕ
place_behind done item = within_bytes (rounded_up done.size item.align)

-- the places of items in order, behind what stands before them
abbrev pub places_behind : Extent → List Extent → List ℕ
places_behind done [] = []
places_behind done (item ∷ items) = place_behind done item ∷ places_behind (behind done item) items

-- ---- all types

module _ (types : List TypeDecl) where
  abbrev pub places_at : Option ℕ → List (List ℕ) → List (List ℕ)
  places_at None other = other
  places_at (Some n) other = declared_places (slice_get types n)

  -- a declared type has the places that are declared
  abbrev pub places_named : List ℕ → List (List ℕ) → List (List ℕ)
  places_named text other = places_at (entry_of types text) other

  abbrev pub form_places : List ℕ → Ty-F Ty → List (List ℕ)
  form_places text (Ty-F.Tuple items) = places_named text (places_behind empty (map (extent_of types) items) ∷ [])
  form_places text (Ty-F.Named path) = places_named text []
  form_places text _ = []

  abbrev pub places_of : Ty → List (List ℕ)
  places_of t = form_places (type_text t) (out-Ty t)

  abbrev pub tags_at : Option ℕ → List (Option Word)
  tags_at None = []
  tags_at (Some n) = declared_tags (slice_get types n)

  abbrev pub form_tags : List ℕ → Ty-F Ty → List (Option Word)
  form_tags text (Ty-F.Named path) = tags_at (entry_of types text)
  form_tags text _ = []

  abbrev pub tags_of : Ty → List (Option Word)
  tags_of t = form_tags (type_text t) (out-Ty t)

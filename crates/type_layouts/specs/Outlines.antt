-- A declared type with the layouts of its fields: where they and the tag stand, and what the fields hold.
use Rattle.std.specs.Prelude.{ℕ, List, [], ◌∷◌, Option, Some, None, map}
use Rattle.mir_ir.specs.declared.declarations.FieldDecl.{FieldDecl}
use Rattle.mir_ir.specs.declared.declarations.TagDecl.{TagDecl}
use Rattle.mir_ir.specs.declared.declarations.TypeDecl.{TypeDecl}
use Rattle.mir_ir.specs.declared.declarations.TypeShape.{TypeShape}
use Rattle.mir_ir.specs.declared.declarations.TypeShape.TheVariants as shape
use Rattle.mir_ir.specs.declared.declarations.VariantDecl.{VariantDecl}
use Rattle.canonical_text.specs.Types.{type_text}
use Rattle.type_layouts.specs.declared.extent.Extent.{Extent}
use Rattle.type_layouts.specs.declared.outline.Outline.{Outline}
use Rattle.type_layouts.specs.declared.outline.Spot.{Spot}
use Rattle.type_layouts.specs.Extents.{empty, in_order}
use Rattle.type_layouts.specs.Rows.{extent_of}

module _ (types : List TypeDecl) where
  abbrev pub spot_of : ℕ → Extent → Spot
  spot_of offset e = record { offset = offset; size = e.size; align = e.align }

  -- where a field stands
  abbrev pub field_spot : FieldDecl → Spot
  field_spot f = spot_of f.offset (extent_of types f.ty)

  abbrev pub tag_spot : Option TagDecl → Option Spot
  tag_spot None = None
  tag_spot (Some tag) = Some (spot_of tag.offset (extent_of types tag.ty))

  abbrev pub field_extent : FieldDecl → Extent
  field_extent f = extent_of types f.ty

  abbrev pub variant_spots : VariantDecl → List Spot
  variant_spots v = map field_spot v.fields

  -- the fields of every variant, behind what stands before them
  abbrev pub variants_in_order : Extent → List VariantDecl → Extent
  variants_in_order done [] = done
  variants_in_order done (v ∷ more) = variants_in_order (in_order done (map field_extent v.fields)) more

  -- all fields: their parts and the declared types in them are those of the type, which counts as one part beside
  abbrev pub contents : TypeShape → Extent
  contents (shape.Struct fields) = in_order empty (map field_extent fields)
  contents (shape.Tuple fields) = in_order empty (map field_extent fields)
  contents (shape.Enum variants tag discriminant) = variants_in_order empty variants

  -- the fields that stand side by side: those of a struct or a tuple, or of one variant
  abbrev pub groups : TypeShape → List (List Spot)
  groups (shape.Struct fields) = map field_spot fields ∷ []
  groups (shape.Tuple fields) = map field_spot fields ∷ []
  groups (shape.Enum variants tag discriminant) = map variant_spots variants

  abbrev pub tag_in : TypeShape → Option Spot
  tag_in (shape.Struct fields) = None
  tag_in (shape.Tuple fields) = None
  tag_in (shape.Enum variants tag discriminant) = tag_spot tag

  unfoldable pub outline_of : TypeDecl → Outline
  outline_of own = record {
    text = type_text own.name;
    size = own.size;
    align = own.align;
    tag = tag_in own.shape;
    groups = groups own.shape;
    parts = (contents own.shape).parts;
    held = (contents own.shape).held;
  }

-- the declared types in their order
unfoldable pub outlines : List TypeDecl → List Outline
outlines types = map (outline_of types) types

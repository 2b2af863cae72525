-- What a path makes: a struct, or a variant of an enum, whose path is the enum's, `::` and the variant's name.
use Rattle.std.specs.Prelude.{ℕ, ◌+◌, Bool, false, ◌&&◌, ◌==◌, if◌then◌else◌, List, [], ◌∷◌, Option, Some, None, Ok, Err, option_map, option_and_then, bytes_eq, take, drop}
use Rattle.std.specs.List.{list_any}
use Rattle.mir_ir.specs.declared.types.Ty.{Ty}
use Rattle.mir_ir.specs.declared.declarations.Declarations.{Declarations}
use Rattle.mir_ir.specs.declared.declarations.FieldDecl.{FieldDecl}
use Rattle.mir_ir.specs.declared.declarations.TypeDecl.{TypeDecl}
use Rattle.mir_ir.specs.declared.declarations.TypeShape.{TypeShape}
use Rattle.mir_ir.specs.declared.declarations.TypeShape.TheVariants as shape
use Rattle.mir_ir.specs.declared.declarations.VariantDecl.{VariantDecl}
use Rattle.type_rules.specs.declared.refusal.TypeKind.TheVariants as kind
use Rattle.type_rules.specs.Refusals.{OrRefused}
use Rattle.type_rules.specs.Types.{same_type}
use Rattle.type_rules.specs.Lookup.{shape_variants, type_named, variant_named}

-- a path in two: what stands before its last `::`, and what behind it
pub record Halves : Type 0 where
  pub front : List ℕ
  pub word : List ℕ

-- `::` at the very front
abbrev pub has_colons : ℕ → List ℕ → Bool
has_colons c [] = false
has_colons c (b ∷ rest) = c == 58 && b == 58

abbrev pub colons_from : ℕ → List ℕ → Option ℕ → Option ℕ
colons_from c rest (Some n) = Some (n + 1)
colons_from c rest None = if has_colons c rest then Some 0 else None

-- where the last `::` begins
unfoldable pub last_colons : List ℕ → Option ℕ
last_colons [] = None
last_colons (c ∷ rest) = colons_from c rest (last_colons rest)

abbrev pub halves_at : List ℕ → Option ℕ → Option Halves
halves_at path None = None
halves_at path (Some n) = Some (record { front = take n path; word = drop (n + 2) path })

abbrev pub halves : List ℕ → Option Halves
halves path = halves_at path (last_colons path)

-- the type that is made, and its fields in the order of the declaration
pub record Made : Type 0 where
  pub ty : Ty
  pub fields : List FieldDecl

abbrev pub struct_shape : Ty → TypeShape → Option Made
struct_shape t (shape.Struct fields) = Some (record { ty = t; fields = fields })
struct_shape t _ = None

abbrev pub struct_made : TypeDecl → Option Made
struct_made own = struct_shape own.name own.shape

abbrev pub made_of : Ty → VariantDecl → Made
made_of t v = record { ty = t; fields = v.fields }

abbrev pub variant_among : Ty → List ℕ → Option (List VariantDecl) → Option Made
variant_among t word None = None
variant_among t word (Some variants) = option_map (made_of t) (variant_named variants word)

abbrev pub variant_made : TypeDecl → List ℕ → Option Made
variant_made own word = variant_among own.name word (shape_variants own.shape)

abbrev pub variant_of_path : Declarations → Option Halves → Option Made
variant_of_path d None = None
variant_of_path d (Some h) = option_and_then (λ own. variant_made own h.word) (type_named d h.front)

abbrev pub first_made : Option Made → Option Made → Option Made
first_made (Some m) other = Some m
first_made None other = other

-- a struct of this path, and where there is none, a variant
abbrev pub made_by : Declarations → List ℕ → Option Made
made_by d path = first_made (option_and_then struct_made (type_named d path)) (variant_of_path d (halves path))

abbrev pub has_field : List FieldDecl → List ℕ → Bool
has_field fields name = list_any (λ f. bytes_eq name f.name) fields

-- a field that is written, and the type of its operand
pub record Given : Type 0 where
  pub name : List ℕ
  pub ty : Ty

abbrev pub field_fits : Option FieldDecl → Given → Bool
field_fits None g = false
field_fits (Some f) g = bytes_eq g.name f.name && same_type g.ty f.ty

abbrev pub first_field : List FieldDecl → Option FieldDecl
first_field [] = None
first_field (f ∷ fs) = Some f

abbrev pub other_fields : List FieldDecl → List FieldDecl
other_fields [] = []
other_fields (f ∷ fs) = fs

-- a field that is not the next one: there is none of this name, or it stands elsewhere or has another type
abbrev pub not_next : List FieldDecl → List ℕ → OrRefused (Unit {0})
not_next fields name = if has_field fields name then Err kind.Mismatch else Err kind.UnknownName

-- the fields as they are written against those that are left: each is the next one of the declaration
abbrev pub fields_fit : List FieldDecl → List FieldDecl → List Given → OrRefused (Unit {0})
fields_fit fields [] [] = Ok tt
fields_fit fields (f ∷ fs) [] = Err kind.Mismatch
fields_fit fields left (g ∷ more) = if field_fits (first_field left) g then fields_fit fields (other_fields left) more else not_next fields g.name

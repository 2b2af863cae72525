-- The type of a place: that of its local, and then of each step from left to right.
use Rattle.std.specs.Prelude.{ℕ, Bool, false, ◌&&◌, nat_lt, nat_le, List, [], ◌∷◌, Option, Some, None, Ok, slice_get, option_map}
use Rattle.mir_ir.specs.declared.types.IntTy.TheVariants as int
use Rattle.mir_ir.specs.declared.types.Ty.{Ty, out-Ty}
use Rattle.mir_ir.specs.declared.types.Ty.TheOpen.{Ty-F}
use Rattle.mir_ir.specs.declared.places.PlaceExpr.{PlaceExpr}
use Rattle.mir_ir.specs.declared.places.Projection.{Projection}
use Rattle.mir_ir.specs.declared.places.Projection.TheVariants as projection
use Rattle.mir_ir.specs.declared.tree.Function.{Function}
use Rattle.mir_ir.specs.declared.declarations.Declarations.{Declarations}
use Rattle.mir_ir.specs.declared.declarations.FieldDecl.{FieldDecl}
use Rattle.mir_ir.specs.declared.declarations.TypeDecl.{TypeDecl}
use Rattle.mir_ir.specs.declared.declarations.TypeShape.{TypeShape}
use Rattle.mir_ir.specs.declared.declarations.TypeShape.TheVariants as shape
use Rattle.mir_ir.specs.declared.declarations.VariantDecl.{VariantDecl}
use Rattle.vk_core.specs.declared.ids.LocalId.{LocalId}
use Rattle.type_rules.specs.declared.refusal.TypeKind.TheVariants as kind
use Rattle.type_rules.specs.declared.types.Scalar.{Scalar}
use Rattle.type_rules.specs.declared.types.Scalar.TheVariants as scalar
use Rattle.type_rules.specs.Refusals.{OrRefused, ◌>>=◌, ◌>>◌, check, required}
use Rattle.type_rules.specs.Types.{is_sized, item_of, pointer_of, same_int, same_type, scalar_of}
use Rattle.type_rules.specs.Lookup.{knows_traits, local_type, type_named, variant_named, variants_of}

-- the type of a place, and the variant of an enum that its last step has chosen
pub record PlaceType : Type 0 where
  pub ty : Ty
  pub variant : Option VariantDecl

abbrev pub whole : Ty → PlaceType
whole t = record { ty = t; variant = None }

abbrev pub field_at : List FieldDecl → ℕ → Option Ty
field_at fields n = option_map (λ f. f.ty) (slice_get fields n)

-- a field of a struct, or of the variant that was chosen
abbrev pub shape_field : TypeShape → Option VariantDecl → ℕ → Option Ty
shape_field (shape.Struct fields) v n = field_at fields n
shape_field (shape.Tuple fields) v n = field_at fields n
shape_field (shape.Enum variants tag discriminant) (Some v) n = field_at v.fields n
shape_field (shape.Enum variants tag discriminant) None n = None

abbrev pub declared_field : Option TypeDecl → Option VariantDecl → ℕ → Option Ty
declared_field None v n = None
declared_field (Some own) v n = shape_field own.shape v n

abbrev pub field_form : Declarations → Ty-F Ty → Option VariantDecl → ℕ → Option Ty
field_form d (Ty-F.Tuple items) v n = slice_get items n
field_form d (Ty-F.Named path) v n = declared_field (type_named d path) v n
field_form d _ v n = None

-- the type of the field with this number of a struct, a tuple or a chosen variant
abbrev pub field_type : Declarations → PlaceType → ℕ → Option Ty
field_type d p n = field_form d (out-Ty p.ty) p.variant n

-- the type of a field is written at the step, and is that of the field
abbrev pub is_field : Option Ty → Ty → Bool
is_field None t = false
is_field (Some own) t = same_type t own

abbrev pub is_usize : Option Scalar → Bool
is_usize (Some (scalar.Int i)) = same_int i int.Usize
is_usize _ = false

abbrev pub field_step : Declarations → PlaceType → ℕ → Ty → OrRefused PlaceType
field_step d p n t = check (knows_traits d t) kind.UnknownName >> (check (is_field (field_type d p n) t) kind.BadPlace >> Ok (whole t))

-- what a reference, a raw pointer or a Box points to
abbrev pub deref_step : PlaceType → OrRefused PlaceType
deref_step p = required (pointer_of p.ty) kind.BadPlace >>= λ q. Ok (whole q.target)

-- an item of an array or a slice, where the number fits
abbrev pub item_step : PlaceType → Bool → OrRefused PlaceType
item_step p fits = required (item_of p.ty) kind.BadPlace >>= λ item. (check fits kind.BadPlace >> Ok (whole item))

abbrev pub index_step : Function → PlaceType → LocalId → OrRefused PlaceType
index_step f p local = required (local_type f local) kind.UnknownName >>= λ t. item_step p (is_usize (scalar_of t))

-- a variant of an enum by its name
abbrev pub downcast_step : Declarations → PlaceType → List ℕ → OrRefused PlaceType
downcast_step d p name =
    required (variants_of d p.ty) kind.BadPlace >>= λ variants.
    (required (variant_named variants name) kind.UnknownName >>= λ v. Ok (record { ty = p.ty; variant = Some v }))

-- one step: a number from the front is below the least length, and one from the back is 1 to that length
abbrev pub stepped : Declarations → Function → PlaceType → Projection → OrRefused PlaceType
stepped d f p (projection.Field n t) = field_step d p n t
stepped d f p projection.Deref = deref_step p
stepped d f p (projection.Index local) = index_step f p local
stepped d f p (projection.FromFront n least) = item_step p (nat_lt n least)
stepped d f p (projection.FromBack n least) = item_step p (nat_le 1 n && nat_le n least)
stepped d f p (projection.Downcast name) = downcast_step d p name

abbrev pub after_steps : Declarations → Function → PlaceType → List Projection → OrRefused PlaceType
after_steps d f p [] = Ok p
after_steps d f p (step ∷ steps) = stepped d f p step >>= λ q. after_steps d f q steps

-- the type of a place, whose last step may have chosen a variant
abbrev pub place_type : Declarations → Function → PlaceExpr → OrRefused Ty
place_type d f e =
    required (local_type f e.local) kind.UnknownName >>= λ t.
    (after_steps d f (whole t) e.steps >>= λ p. Ok p.ty)

-- the type of a place that is read, written or dropped, which has a size
abbrev pub value_type : Declarations → Function → PlaceExpr → OrRefused Ty
value_type d f e = place_type d f e >>= λ t. (check (is_sized t) kind.BadPlace >> Ok t)

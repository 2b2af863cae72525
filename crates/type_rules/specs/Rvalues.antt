-- The types of rvalues. Operands come from left to right, and then the form.
use Rattle.std.specs.Prelude.{ℕ, Bool, true, false, ◌&&◌, ◌==◌, List, [], ◌∷◌, Option, Some, None, Ok, length, option_map}
use Rattle.mir_ir.specs.declared.types.IntTy.{IntTy}
use Rattle.mir_ir.specs.declared.types.IntTy.TheVariants as int
use Rattle.mir_ir.specs.declared.types.Ty.{Ty, out-Ty}
use Rattle.mir_ir.specs.declared.types.Ty.TheOpen.{Ty-F}
use Rattle.mir_ir.specs.declared.types.Ty.TheVariants as ty
use Rattle.mir_ir.specs.declared.places.PlaceExpr.{PlaceExpr}
use Rattle.mir_ir.specs.declared.tree.BinaryOp.{BinaryOp}
use Rattle.mir_ir.specs.declared.tree.CastKind.{CastKind}
use Rattle.mir_ir.specs.declared.tree.Function.{Function}
use Rattle.mir_ir.specs.declared.tree.NamedOperand.{NamedOperand}
use Rattle.mir_ir.specs.declared.tree.Operand.{Operand}
use Rattle.mir_ir.specs.declared.tree.Rvalue.{Rvalue}
use Rattle.mir_ir.specs.declared.tree.Rvalue.TheVariants as rvalue
use Rattle.mir_ir.specs.declared.declarations.Declarations.{Declarations}
use Rattle.mir_ir.specs.declared.declarations.TypeDecl.{TypeDecl}
use Rattle.mir_ir.specs.declared.declarations.TypeShape.{TypeShape}
use Rattle.mir_ir.specs.declared.declarations.TypeShape.TheVariants as shape
use Rattle.type_rules.specs.declared.refusal.TypeKind.TheVariants as kind
use Rattle.type_rules.specs.Refusals.{OrRefused, ◌>>=◌, ◌>>◌, check, each, required}
use Rattle.type_rules.specs.Types.{is_sized, item_of, pointer_of, same_type, same_types, scalar_of}
use Rattle.type_rules.specs.Lookup.{declaration_of, field_types, knows_traits}
use Rattle.type_rules.specs.Places.{place_type}
use Rattle.type_rules.specs.Operators.{binary_type, neg_type, not_type, points_to_slice}
use Rattle.type_rules.specs.Casts.{cast_type}
use Rattle.type_rules.specs.Operands.{operand_type}
use Rattle.type_rules.specs.Aggregates.{Given, fields_fit, made_by}

abbrev pub usize : Ty
usize = ty.Int int.Usize

-- the type of an enum's discriminant
abbrev pub shape_discriminant : TypeShape → Option IntTy
shape_discriminant (shape.Enum variants tag discriminant) = Some discriminant
shape_discriminant _ = None

abbrev pub declared_discriminant : Option TypeDecl → Option IntTy
declared_discriminant None = None
declared_discriminant (Some own) = shape_discriminant own.shape

abbrev pub discriminant_type : Declarations → Ty → OrRefused Ty
discriminant_type d t = required (option_map (λ i. ty.Int i) (declared_discriminant (declaration_of d t))) kind.Mismatch

-- the length of an array or a slice
abbrev pub length_type : Ty → OrRefused Ty
length_type t = required (item_of t) kind.Mismatch >>= λ item. Ok usize

-- the size or the alignment of a type that has one
abbrev pub size_type : Declarations → Ty → OrRefused Ty
size_type d t = check (knows_traits d t) kind.UnknownName >> (check (is_sized t) kind.Mismatch >> Ok usize)

abbrev pub all_of : Ty → List Ty → Bool
all_of item [] = true
all_of item (t ∷ ts) = same_type t item && all_of item ts

abbrev pub are_items : Ty-F Ty → List Ty → Bool
are_items (Ty-F.Array item count) ts = count == length ts && all_of item ts
are_items _ ts = false

-- operands in brackets are the items of the array that they are written to
abbrev pub array_type : Ty → List Ty → OrRefused Ty
array_type to ts = check (are_items (out-Ty to) ts) kind.Mismatch >> Ok to

-- a struct or a variant without fields
abbrev pub unit_type : Declarations → List ℕ → OrRefused Ty
unit_type d path = required (made_by d path) kind.UnknownName >>= λ m. (check (same_types [] (field_types m.fields)) kind.Mismatch >> Ok m.ty)

-- the operands are its fields, in order
abbrev pub tuple_type : Declarations → List ℕ → List Ty → OrRefused Ty
tuple_type d path ts = required (made_by d path) kind.UnknownName >>= λ m. (check (same_types ts (field_types m.fields)) kind.Mismatch >> Ok m.ty)

abbrev pub struct_type : Declarations → List ℕ → List Given → OrRefused Ty
struct_type d path gs = required (made_by d path) kind.UnknownName >>= λ m. (fields_fit m.fields m.fields gs >> Ok m.ty)

abbrev pub given_type : Declarations → Function → NamedOperand → OrRefused Given
given_type d f o = operand_type d f o.operand >>= λ t. Ok (record { name = o.name; ty = t })

-- ---- by the forms of rvalues

abbrev pub cast_given : Declarations → Function → Operand → CastKind → Ty → OrRefused Ty
cast_given d f o how t = operand_type d f o >>= λ from. cast_type d how from t

abbrev pub binary_given : Declarations → Function → BinaryOp → Operand → Operand → OrRefused Ty
binary_given d f op a b = operand_type d f a >>= λ s. (operand_type d f b >>= λ t. required (binary_type op s t) kind.Mismatch)

abbrev pub not_given : Declarations → Function → Operand → OrRefused Ty
not_given d f o = operand_type d f o >>= λ t. required (not_type (scalar_of t)) kind.Mismatch

abbrev pub neg_given : Declarations → Function → Operand → OrRefused Ty
neg_given d f o = operand_type d f o >>= λ t. required (neg_type (scalar_of t)) kind.Mismatch

abbrev pub metadata_given : Declarations → Function → Operand → OrRefused Ty
metadata_given d f o = operand_type d f o >>= λ t. (check (points_to_slice (pointer_of t)) kind.Mismatch >> Ok usize)

-- a reference or a raw pointer to a place, sized or not
abbrev pub ref_given : Declarations → Function → Bool → PlaceExpr → OrRefused Ty
ref_given d f mutable place = place_type d f place >>= λ t. Ok (ty.Ref mutable t)

abbrev pub raw_given : Declarations → Function → Bool → PlaceExpr → OrRefused Ty
raw_given d f mutable place = place_type d f place >>= λ t. Ok (ty.Raw mutable t)

abbrev pub discriminant_given : Declarations → Function → PlaceExpr → OrRefused Ty
discriminant_given d f place = place_type d f place >>= λ t. discriminant_type d t

abbrev pub length_given : Declarations → Function → PlaceExpr → OrRefused Ty
length_given d f place = place_type d f place >>= λ t. length_type t

abbrev pub array_given : Declarations → Function → Ty → List Operand → OrRefused Ty
array_given d f to os = each (operand_type d f) os >>= λ ts. array_type to ts

abbrev pub repeat_given : Declarations → Function → Operand → ℕ → OrRefused Ty
repeat_given d f o count = operand_type d f o >>= λ t. Ok (ty.Array t count)

abbrev pub operands_given : Declarations → Function → List Operand → OrRefused Ty
operands_given d f os = each (operand_type d f) os >>= λ ts. Ok (ty.Tuple ts)

abbrev pub tuple_given : Declarations → Function → List ℕ → List Operand → OrRefused Ty
tuple_given d f path os = each (operand_type d f) os >>= λ ts. tuple_type d path ts

abbrev pub fields_given : Declarations → Function → List ℕ → List NamedOperand → OrRefused Ty
fields_given d f path fields = each (given_type d f) fields >>= λ gs. struct_type d path gs

-- the type of an rvalue that is written to a place of this type
abbrev pub rvalue_type : Declarations → Function → Ty → Rvalue → OrRefused Ty
rvalue_type d f to (rvalue.Use o) = operand_type d f o
rvalue_type d f to (rvalue.Cast o t how) = cast_given d f o how t
rvalue_type d f to (rvalue.Binary op a b) = binary_given d f op a b
rvalue_type d f to (rvalue.Not o) = not_given d f o
rvalue_type d f to (rvalue.Neg o) = neg_given d f o
rvalue_type d f to (rvalue.PtrMetadata o) = metadata_given d f o
rvalue_type d f to (rvalue.RefOf mutable place) = ref_given d f mutable place
rvalue_type d f to (rvalue.RawOf mutable place) = raw_given d f mutable place
rvalue_type d f to (rvalue.Discriminant place) = discriminant_given d f place
rvalue_type d f to (rvalue.Len place) = length_given d f place
rvalue_type d f to (rvalue.SizeOf t) = size_type d t
rvalue_type d f to (rvalue.AlignOf t) = size_type d t
rvalue_type d f to (rvalue.Array os) = array_given d f to os
rvalue_type d f to (rvalue.Repeat o count) = repeat_given d f o count
rvalue_type d f to (rvalue.Tuple os) = operands_given d f os
rvalue_type d f to (rvalue.PathUnit path) = unit_type d path
rvalue_type d f to (rvalue.PathTuple path os) = tuple_given d f path os
rvalue_type d f to (rvalue.PathFields path fields) = fields_given d f path fields

-- the type is that of the place
abbrev pub agreed : OrRefused Ty → Ty → OrRefused (Unit {0})
agreed given to = given >>= λ t. check (same_type t to) kind.Mismatch

-- an rvalue has the type of the place that it is written to; operands in brackets were compared with its items
abbrev pub written : Declarations → Function → Ty → Rvalue → OrRefused (Unit {0})
written d f to (rvalue.Array os) = array_given d f to os >>= λ t. Ok tt
written d f to value = agreed (rvalue_type d f to value) to

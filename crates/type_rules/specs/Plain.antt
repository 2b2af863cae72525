-- Plain types: integers, `bool`, `char`, `()`, and arrays, tuples, structs and enums of plain types that have no drop function of
-- their own. `kani::any` chooses values of these alone.
use Rattle.std.specs.Prelude.{ℕ, zero, suc, Bool, true, false, ◌&&◌, List, [], ◌∷◌, Option, Some, None, is_none, length}
use Rattle.mir_ir.specs.declared.types.Ty.{Ty}
use Rattle.mir_ir.specs.declared.types.Ty.TheOpen.{Ty-F}
use Rattle.mir_ir.specs.declared.types.Ty.TheFolds.{fold-Ty}
use Rattle.mir_ir.specs.declared.declarations.Declarations.{Declarations}
use Rattle.mir_ir.specs.declared.declarations.TypeDecl.{TypeDecl}
use Rattle.mir_ir.specs.declared.declarations.TypeShape.{TypeShape}
use Rattle.mir_ir.specs.declared.declarations.TypeShape.TheVariants as shape
use Rattle.mir_ir.specs.declared.declarations.VariantDecl.{VariantDecl}
use Rattle.type_rules.specs.Lookup.{all_true, field_types, type_named}

abbrev pub all_plain : (Ty → Bool) → List Ty → Bool
all_plain test [] = true
all_plain test (t ∷ ts) = test t && all_plain test ts

abbrev pub variants_plain : (Ty → Bool) → List VariantDecl → Bool
variants_plain test [] = true
variants_plain test (v ∷ vs) = all_plain test (field_types v.fields) && variants_plain test vs

abbrev pub shape_plain : (Ty → Bool) → TypeShape → Bool
shape_plain test (shape.Struct fields) = all_plain test (field_types fields)
shape_plain test (shape.Tuple fields) = all_plain test (field_types fields)
shape_plain test (shape.Enum variants tag discriminant) = variants_plain test variants

abbrev pub declared_plain : (Ty → Bool) → Option TypeDecl → Bool
declared_plain test None = false
declared_plain test (Some own) = is_none own.drop && shape_plain test own.shape

abbrev pub plain_level : (List ℕ → Bool) → Ty-F Bool → Bool
plain_level named Ty-F.Bool = true
plain_level named Ty-F.Char = true
plain_level named (Ty-F.Int i) = true
plain_level named (Ty-F.Tuple items) = all_true items
plain_level named (Ty-F.Array item count) = item
plain_level named (Ty-F.Named path) = named path
plain_level named _ = false

-- plain, where declared types lie in one another at most so deep
abbrev pub plain_within : ℕ → Declarations → Ty → Bool
plain_within zero d t = fold-Ty Bool (plain_level (λ path. false)) t
plain_within (suc depth) d t = fold-Ty Bool (plain_level (λ path. declared_plain (plain_within depth d) (type_named d path))) t

-- no type holds itself, so declared types lie in one another no deeper than there are any
unfoldable pub is_plain : Declarations → Ty → Bool
is_plain d t = plain_within (length d.types) d t

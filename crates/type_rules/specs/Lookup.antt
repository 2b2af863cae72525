-- What the names of a text and of its declarations stand for. Where one name stands twice, the first counts.
use Rattle.std.specs.Prelude.{ℕ, Bool, true, false, ◌&&◌, ◌==◌, List, [], ◌∷◌, Option, Some, None, find, is_some, option_and_then, bytes_eq, if◌then◌else◌}
use Rattle.vk_core.specs.declared.ids.BlockId.{BlockId}
use Rattle.vk_core.specs.declared.ids.LocalId.{LocalId}
use Rattle.mir_ir.specs.declared.types.Ty.{Ty, out-Ty}
use Rattle.mir_ir.specs.declared.types.Ty.TheOpen.{Ty-F}
use Rattle.mir_ir.specs.declared.types.Ty.TheFolds.{fold-Ty}
use Rattle.mir_ir.specs.declared.tree.Block.{Block}
use Rattle.mir_ir.specs.declared.tree.Function.{Function}
use Rattle.mir_ir.specs.declared.declarations.AliasDecl.{AliasDecl}
use Rattle.mir_ir.specs.declared.declarations.ConstantDecl.{ConstantDecl}
use Rattle.mir_ir.specs.declared.declarations.Declarations.{Declarations}
use Rattle.mir_ir.specs.declared.declarations.FieldDecl.{FieldDecl}
use Rattle.mir_ir.specs.declared.declarations.TraitDecl.{TraitDecl}
use Rattle.mir_ir.specs.declared.declarations.TypeDecl.{TypeDecl}
use Rattle.mir_ir.specs.declared.declarations.TypeShape.{TypeShape}
use Rattle.mir_ir.specs.declared.declarations.TypeShape.TheVariants as shape
use Rattle.mir_ir.specs.declared.declarations.VariantDecl.{VariantDecl}
use Rattle.mir_ir.specs.declared.declarations.VtableDecl.{VtableDecl}
use Rattle.type_rules.specs.Types.{same_type}

abbrev pub is_name : List ℕ → Option (List ℕ) → Bool
is_name name None = false
is_name name (Some own) = bytes_eq own name

-- the first of a list that has this name
abbrev pub first_named : {A : Type 0} → (A → Option (List ℕ)) → List ℕ → List A → Option A
first_named name_of name items = find (λ x. is_name name (name_of x)) items

abbrev pub path_form : Ty-F Ty → Option (List ℕ)
path_form (Ty-F.Named path) = Some path
path_form _ = None

-- the path of a type that is written as one
abbrev pub path_of : Ty → Option (List ℕ)
path_of t = path_form (out-Ty t)

-- the struct or enum of this path
abbrev pub type_named : Declarations → List ℕ → Option TypeDecl
type_named d path = first_named (λ own. path_of own.name) path d.types

abbrev pub declaration_form : Declarations → Ty-F Ty → Option TypeDecl
declaration_form d (Ty-F.Named path) = type_named d path
declaration_form d _ = None

-- the declaration of a struct or enum type
abbrev pub declaration_of : Declarations → Ty → Option TypeDecl
declaration_of d t = declaration_form d (out-Ty t)

abbrev pub field_types : List FieldDecl → List Ty
field_types [] = []
field_types (f ∷ fs) = f.ty ∷ field_types fs

abbrev pub variant_named : List VariantDecl → List ℕ → Option VariantDecl
variant_named variants name = first_named (λ v. Some v.name) name variants

-- the variants of an enum
abbrev pub shape_variants : TypeShape → Option (List VariantDecl)
shape_variants (shape.Enum variants tag discriminant) = Some variants
shape_variants _ = None

abbrev pub variants_of : Declarations → Ty → Option (List VariantDecl)
variants_of d t = option_and_then (λ own. shape_variants own.shape) (declaration_of d t)

abbrev pub trait_named : Declarations → List ℕ → Option TraitDecl
trait_named d name = first_named (λ t. Some t.name) name d.traits

abbrev pub constant_named : Declarations → List ℕ → Option ConstantDecl
constant_named d name = first_named (λ c. Some c.name) name d.constants

-- the first declared vtable of a trait
abbrev pub first_vtable : Declarations → List ℕ → Option VtableDecl
first_vtable d name = first_named (λ v. Some v.trait_name) name d.vtables

-- the vtable of a type for a trait
abbrev pub vtable_for : Declarations → Ty → List ℕ → Option VtableDecl
vtable_for d t name = find (λ v. bytes_eq name v.trait_name && same_type t v.ty) d.vtables

abbrev pub function_named : List Function → List ℕ → Option Function
function_named functions name = first_named (λ f. Some f.name) name functions

abbrev pub alias_named : Declarations → List ℕ → Option AliasDecl
alias_named d name = first_named (λ a. Some a.call) name d.aliases

-- the function that a call names: one of the text by its name, and where there is none, by an alias
abbrev pub function_called : List Function → Declarations → List ℕ → Option Function
function_called functions d name = elim (function_named functions name) [
  | Some f ↦ Some f
  | None ↦ option_and_then (λ a. function_named functions a.function) (alias_named d name)
]

-- the type of a local; `_0` has the type of the result, declared or not
abbrev pub local_type : Function → LocalId → Option Ty
local_type f id = elim (find (λ l. l.id.0 == id.0) f.locals) [
  | Some l ↦ Some l.ty
  | None ↦ (if id.0 == 0 then Some f.result else None)
]

abbrev pub block_at : Function → BlockId → Option Block
block_at f id = find (λ b. b.id.0 == id.0) f.blocks

abbrev pub all_true : List Bool → Bool
all_true [] = true
all_true (b ∷ bs) = b && all_true bs

abbrev pub knows_level : Declarations → Ty-F Bool → Bool
knows_level d (Ty-F.Tuple items) = all_true items
knows_level d (Ty-F.Array item count) = item
knows_level d (Ty-F.Slice item) = item
knows_level d (Ty-F.Ref mutable target) = target
knows_level d (Ty-F.Raw mutable target) = target
knows_level d (Ty-F.BoxOf target) = target
knows_level d (Ty-F.Dyn path) = is_some (trait_named d path)
knows_level d _ = true

-- each trait of a `dyn` in the type is declared
unfoldable pub knows_traits : Declarations → Ty → Bool
knows_traits d = fold-Ty Bool (knows_level d)

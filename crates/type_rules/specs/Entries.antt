-- Typing of declarations: which key or list element of which entry is refused first, and how. Tables come in the order of the file's
-- format, entries by their places, and in an entry the keys in the order of the format.
use Rattle.std.specs.Prelude.{ℕ, ◌+◌, Bool, true, false, ◌&&◌, ◌==◌, List, [], ◌∷◌, ◌++◌, Option, Some, None, Ok, Err, length, slice_get, option_and_then, is_some, codes}
use Rattle.std.specs.Fmt.{decimal}
use Rattle.vk_core.specs.declared.check.At.TheVariants as at_
use Rattle.vk_core.specs.declared.ids.LocalId.{LocalId}
use Rattle.mir_ir.specs.declared.types.Ty.{Ty, out-Ty}
use Rattle.mir_ir.specs.declared.types.Ty.TheOpen.{Ty-F}
use Rattle.mir_ir.specs.declared.types.Ty.TheVariants as ty
use Rattle.mir_ir.specs.declared.places.PlaceExpr.{PlaceExpr}
use Rattle.mir_ir.specs.declared.tree.Function.{Function}
use Rattle.mir_ir.specs.declared.declarations.AliasDecl.{AliasDecl}
use Rattle.mir_ir.specs.declared.declarations.Contract.{Contract}
use Rattle.mir_ir.specs.declared.declarations.Declarations.{Declarations}
use Rattle.mir_ir.specs.declared.declarations.FieldDecl.{FieldDecl}
use Rattle.mir_ir.specs.declared.declarations.LoopRule.{LoopRule}
use Rattle.mir_ir.specs.declared.declarations.TypeDecl.{TypeDecl}
use Rattle.mir_ir.specs.declared.declarations.TypeShape.{TypeShape}
use Rattle.mir_ir.specs.declared.declarations.TypeShape.TheVariants as shape
use Rattle.mir_ir.specs.declared.declarations.Unit as units
use Rattle.mir_ir.specs.declared.declarations.UnitKind.{UnitKind}
use Rattle.mir_ir.specs.declared.declarations.UnitKind.TheVariants as unit_kind
use Rattle.mir_ir.specs.declared.declarations.VariantDecl.{VariantDecl}
use Rattle.mir_ir.specs.declared.declarations.VtableDecl.{VtableDecl}
use Rattle.type_rules.specs.declared.refusal.TypeKind.TheVariants as kind
use Rattle.type_rules.specs.declared.types.PointerKind.{PointerKind}
use Rattle.type_rules.specs.declared.types.PointerKind.TheVariants as pointer
use Rattle.type_rules.specs.Refusals.{OrRefused, ◌>>=◌, ◌>>◌, check, required}
use Rattle.type_rules.specs.Types.{PointerType, pointer_of, same_bool, same_type, same_types}
use Rattle.type_rules.specs.Lookup.{block_at, first_vtable, function_named, knows_traits, local_type, trait_named}
use Rattle.type_rules.specs.Places.{place_type}
use Rattle.type_rules.specs.Calls.{parameter_types, unit}
use Rattle.type_rules.specs.Code.{Refused, ◌>>>◌, functions_fit, refused_at}

-- ---- paths, as `type[0].fields[2].type`

abbrev pub element : List ℕ → ℕ → List ℕ
element path n = path ++ codes "[" ++ decimal n ++ codes "]"

abbrev pub key : List ℕ → List ℕ → List ℕ
key path name = path ++ codes "." ++ name

abbrev pub refused_in : List ℕ → OrRefused (Unit {0}) → Refused
refused_in path r = refused_at (at_.Entry path) r

-- ---- what may stand at a key

abbrev pub type_known : Declarations → List ℕ → Ty → Refused
type_known d path t = refused_in path (check (knows_traits d t) kind.UnknownName)

abbrev pub function_known : List Function → List ℕ → List ℕ → Refused
function_known functions path name = refused_in path (check (is_some (function_named functions name)) kind.UnknownName)

-- the functions of a list, the first of which stands at n
abbrev pub functions_known : List Function → List ℕ → ℕ → List (List ℕ) → Refused
functions_known functions path n [] = Ok tt
functions_known functions path n (name ∷ names) = function_known functions (element path n) name >>> functions_known functions path (n + 1) names

abbrev pub place_fits : Declarations → Function → PlaceExpr → OrRefused (Unit {0})
place_fits d f place = place_type d f place >>= λ t. Ok tt

abbrev pub places_fit : Declarations → Function → List ℕ → ℕ → List PlaceExpr → Refused
places_fit d f path n [] = Ok tt
places_fit d f path n (p ∷ ps) = refused_in (element path n) (place_fits d f p) >>> places_fit d f path (n + 1) ps

-- ---- types

abbrev pub fields_known : Declarations → List ℕ → ℕ → List FieldDecl → Refused
fields_known d path n [] = Ok tt
fields_known d path n (f ∷ fs) = type_known d (key (element path n) (codes "type")) f.ty >>> fields_known d path (n + 1) fs

abbrev pub is_item : Option Ty → Ty → Bool
is_item None t = false
is_item (Some item) t = same_type t item

-- the fields of a tuple are the items of its name
abbrev pub item_fits : Declarations → Option Ty → Ty → OrRefused (Unit {0})
item_fits d item t = check (knows_traits d t) kind.UnknownName >> check (is_item item t) kind.Mismatch

abbrev pub tuple_items : Ty-F Ty → List Ty
tuple_items (Ty-F.Tuple items) = items
tuple_items _ = []

abbrev pub items_fit : Declarations → List Ty → List ℕ → ℕ → List FieldDecl → Refused
items_fit d items path n [] = Ok tt
items_fit d items path n (f ∷ fs) =
    refused_in (key (element path n) (codes "type")) (item_fits d (slice_get items n) f.ty) >>> items_fit d items path (n + 1) fs

abbrev pub variants_known : Declarations → List ℕ → ℕ → List VariantDecl → Refused
variants_known d path n [] = Ok tt
variants_known d path n (v ∷ vs) = fields_known d (key (element path n) (codes "fields")) 0 v.fields >>> variants_known d path (n + 1) vs

-- a drop function takes one `&mut` of the type and gives `()`
abbrev pub is_drop_function : Ty → Function → Bool
is_drop_function t g = same_types (parameter_types g) (ty.Ref true t ∷ []) && same_type g.result unit

abbrev pub drop_fits : List Function → Ty → Option (List ℕ) → OrRefused (Unit {0})
drop_fits functions t None = Ok tt
drop_fits functions t (Some name) = required (function_named functions name) kind.UnknownName >>= λ g. check (is_drop_function t g) kind.BadCall

abbrev pub drop_refused : List Function → List ℕ → TypeDecl → Refused
drop_refused functions path own = refused_in (key path (codes "drop")) (drop_fits functions own.name own.drop)

abbrev pub shape_fits : List Function → Declarations → List ℕ → TypeDecl → TypeShape → Refused
shape_fits functions d path own (shape.Struct fields) = fields_known d (key path (codes "fields")) 0 fields >>> drop_refused functions path own
shape_fits functions d path own (shape.Tuple fields) =
    items_fit d (tuple_items (out-Ty own.name)) (key path (codes "fields")) 0 fields >>> drop_refused functions path own
shape_fits functions d path own (shape.Enum variants tag discriminant) =
    drop_refused functions path own >>> variants_known d (key path (codes "variants")) 0 variants

abbrev pub type_fits : List Function → Declarations → List ℕ → TypeDecl → Refused
type_fits functions d path own = type_known d (key path (codes "name")) own.name >>> shape_fits functions d path own own.shape

abbrev pub types_fit : List Function → Declarations → ℕ → List TypeDecl → Refused
types_fit functions d n [] = Ok tt
types_fit functions d n (own ∷ more) = type_fits functions d (element (codes "type") n) own >>> types_fit functions d (n + 1) more

-- ---- vtables

abbrev pub is_reference : PointerKind → Bool
is_reference (pointer.Ref mutable) = true
is_reference _ = false

abbrev pub is_reference_to : Ty → Option PointerType → Bool
is_reference_to t None = false
is_reference_to t (Some p) = is_reference p.kind && same_type p.target t

abbrev pub same_references : PointerKind → PointerKind → Bool
same_references (pointer.Ref m) (pointer.Ref n) = same_bool m n
same_references _ _ = false

abbrev pub same_receivers : Option PointerType → Option PointerType → Bool
same_receivers (Some p) (Some q) = same_references p.kind q.kind
same_receivers _ _ = false

-- the parameters of a method of the type t, and those of the method in the same slot of the trait's first vtable
abbrev pub parameters_fit : Ty → List Ty → List Ty → Bool
parameters_fit t (receiver ∷ others) (model ∷ wanted) =
    is_reference_to t (pointer_of receiver) && same_receivers (pointer_of receiver) (pointer_of model) && same_types others wanted
parameters_fit t _ _ = false

abbrev pub method_fits : Ty → Option Function → Function → Bool
method_fits t None g = false
method_fits t (Some model) g = parameters_fit t (parameter_types g) (parameter_types model) && same_type g.result model.result

abbrev pub slot_fits : List Function → Ty → Option (List ℕ) → List ℕ → OrRefused (Unit {0})
slot_fits functions t model name =
    required (function_named functions name) kind.UnknownName >>= λ g.
    check (method_fits t (option_and_then (function_named functions) model) g) kind.BadCall

-- the methods from the slot n on, with those of the trait's first vtable
abbrev pub slots_fit : List Function → Ty → List (List ℕ) → List ℕ → ℕ → List (List ℕ) → Refused
slots_fit functions t models path n [] = Ok tt
slots_fit functions t models path n (name ∷ names) =
    refused_in (element path n) (slot_fits functions t (slice_get models n) name) >>> slots_fit functions t models path (n + 1) names

abbrev pub methods_of : Option VtableDecl → List (List ℕ)
methods_of None = []
methods_of (Some v) = v.methods

abbrev pub trait_methods : Declarations → List ℕ → List (List ℕ)
trait_methods d name = elim (trait_named d name) [ None ↦ [] | Some t ↦ t.methods ]

abbrev pub vtable_fits : List Function → Declarations → List ℕ → VtableDecl → Refused
vtable_fits functions d path v =
    type_known d (key path (codes "type")) v.ty
    >>> refused_in (key path (codes "trait")) (check (is_some (trait_named d v.trait_name)) kind.UnknownName)
    >>> refused_in (key path (codes "methods")) (check (length v.methods == length (trait_methods d v.trait_name)) kind.BadCall)
    >>> slots_fit functions v.ty (methods_of (first_vtable d v.trait_name)) (key path (codes "methods")) 0 v.methods

abbrev pub vtables_fit : List Function → Declarations → ℕ → List VtableDecl → Refused
vtables_fit functions d n [] = Ok tt
vtables_fit functions d n (v ∷ more) = vtable_fits functions d (element (codes "vtable") n) v >>> vtables_fit functions d (n + 1) more

-- ---- aliases, contracts, loop rules and units

abbrev pub aliases_fit : List Function → ℕ → List AliasDecl → Refused
aliases_fit functions n [] = Ok tt
aliases_fit functions n (a ∷ more) = function_known functions (key (element (codes "alias") n) (codes "function")) a.function >>> aliases_fit functions (n + 1) more

abbrev pub modified : Declarations → Option Function → List ℕ → List PlaceExpr → Refused
modified d None path places = Ok tt
modified d (Some f) path places = places_fit d f path 0 places

abbrev pub contract_fits : List Function → Declarations → List ℕ → Contract → Refused
contract_fits functions d path c =
    function_known functions (key path (codes "function")) c.function
    >>> functions_known functions (key path (codes "requires")) 0 c.required
    >>> functions_known functions (key path (codes "ensures")) 0 c.ensured
    >>> modified d (function_named functions c.function) (key path (codes "modifies")) c.modifies

abbrev pub contracts_fit : List Function → Declarations → ℕ → List Contract → Refused
contracts_fit functions d n [] = Ok tt
contracts_fit functions d n (c ∷ more) = contract_fits functions d (element (codes "contract") n) c >>> contracts_fit functions d (n + 1) more

abbrev pub locals_known : Function → List ℕ → ℕ → List LocalId → Refused
locals_known f path n [] = Ok tt
locals_known f path n (l ∷ ls) = refused_in (element path n) (check (is_some (local_type f l)) kind.UnknownName) >>> locals_known f path (n + 1) ls

abbrev pub loop_in : List Function → Declarations → Option Function → List ℕ → LoopRule → Refused
loop_in functions d None path rule = Ok tt
loop_in functions d (Some f) path rule =
    refused_in (key path (codes "header")) (check (is_some (block_at f rule.header)) kind.UnknownName)
    >>> function_known functions (key path (codes "invariant")) rule.invariant
    >>> locals_known f (key path (codes "arguments")) 0 rule.arguments
    >>> places_fit d f (key path (codes "modifies")) 0 rule.modifies

abbrev pub loop_fits : List Function → Declarations → List ℕ → LoopRule → Refused
loop_fits functions d path rule =
    function_known functions (key path (codes "function")) rule.function >>> loop_in functions d (function_named functions rule.function) path rule

abbrev pub loops_fit : List Function → Declarations → ℕ → List LoopRule → Refused
loops_fit functions d n [] = Ok tt
loops_fit functions d n (rule ∷ more) = loop_fits functions d (element (codes "loop") n) rule >>> loops_fit functions d (n + 1) more

-- a harness takes nothing and gives `()`
abbrev pub is_harness : Function → Bool
is_harness f = f.parameters == 0 && same_type f.result unit

abbrev pub unit_function : UnitKind → Option Function → OrRefused (Unit {0})
unit_function of None = Err kind.UnknownName
unit_function unit_kind.Proof (Some f) = check (is_harness f) kind.BadCall
unit_function unit_kind.Contract (Some f) = Ok tt

abbrev pub unit_fits : List Function → List ℕ → units.Unit → Refused
unit_fits functions path u =
    refused_in (key path (codes "function")) (unit_function u.kind (function_named functions u.name))
    >>> functions_known functions (key path (codes "stubs")) 0 u.stubs

abbrev pub units_fit : List Function → ℕ → List units.Unit → Refused
units_fit functions n [] = Ok tt
units_fit functions n (u ∷ more) = unit_fits functions (element (codes "unit") n) u >>> units_fit functions (n + 1) more

-- ---- the whole

abbrev pub declarations_fit : List Function → Declarations → Refused
declarations_fit functions d =
    types_fit functions d 0 d.types
    >>> vtables_fit functions d 0 d.vtables
    >>> aliases_fit functions 0 d.aliases
    >>> contracts_fit functions d 0 d.contracts
    >>> loops_fit functions d 0 d.loops
    >>> units_fit functions 0 d.units

-- the entries of the declarations come before the functions of the text
unfoldable pub typing : List Function → Declarations → Refused
typing functions d = declarations_fit functions d >>> functions_fit functions d 0 functions

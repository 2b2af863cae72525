-- The lists of a declaration file as walks along their items.
use Rattle.std.proofs.Common.{ℕ, List, refl}
use Rattle.std.specs.Prelude.{codes, is_some, slice_get}
use Rattle.mir_ir.specs.declared.types.Ty.{Ty}
use Rattle.mir_ir.specs.declared.tree.Function.{Function}
use Rattle.mir_ir.specs.declared.declarations.Declarations.{Declarations}
use Rattle.type_rules.specs.declared.refusal.TypeKind.TheVariants as kind
use Rattle.type_rules.specs.Lookup.{local_type}
use Rattle.type_rules.specs.Refusals.{check}
use Rattle.type_rules.specs.Entries.{aliases_fit, contract_fits, contracts_fit, element, fields_known, function_known, functions_known, item_fits, items_fit, key, locals_known, loop_fits, loops_fit, place_fits, places_fit, refused_in, slot_fits, slots_fit, type_fits, type_known, types_fit, unit_fits, units_fit, variants_known, vtable_fits, vtables_fit}
use Rattle.entry_types.specs.declared.paths.EntryTable.TheVariants as table
use Rattle.entry_types.specs.Paths.{entry_path}
use Rattle.entry_types.proofs.Walks.{IsWalk}

-- lists in an entry
pub functions_walk : (functions : List Function) (path : List ℕ) → IsWalk (functions_known functions path) (λ n name. function_known functions (element path n) name)
functions_walk functions path = record { none = λ n. refl; more = λ n x xs. refl }

pub places_walk : (d : Declarations) (f : Function) (path : List ℕ) → IsWalk (places_fit d f path) (λ n p. refused_in (element path n) (place_fits d f p))
places_walk d f path = record { none = λ n. refl; more = λ n x xs. refl }

pub fields_walk : (d : Declarations) (path : List ℕ) → IsWalk (fields_known d path) (λ n f. type_known d (key (element path n) (codes "type")) f.ty)
fields_walk d path = record { none = λ n. refl; more = λ n x xs. refl }

pub items_walk : (d : Declarations) (items : List Ty) (path : List ℕ) → IsWalk (items_fit d items path) (λ n f. refused_in (key (element path n) (codes "type")) (item_fits d (slice_get items n) f.ty))
items_walk d items path = record { none = λ n. refl; more = λ n x xs. refl }

pub variants_walk : (d : Declarations) (path : List ℕ) → IsWalk (variants_known d path) (λ n v. fields_known d (key (element path n) (codes "fields")) 0 v.fields)
variants_walk d path = record { none = λ n. refl; more = λ n x xs. refl }

pub slots_walk : (functions : List Function) (t : Ty) (models : List (List ℕ)) (path : List ℕ) → IsWalk (slots_fit functions t models path) (λ n name. refused_in (element path n) (slot_fits functions t (slice_get models n) name))
slots_walk functions t models path = record { none = λ n. refl; more = λ n x xs. refl }

pub locals_walk : (f : Function) (path : List ℕ) → IsWalk (locals_known f path) (λ n l. refused_in (element path n) (check (is_some (local_type f l)) kind.UnknownName))
locals_walk f path = record { none = λ n. refl; more = λ n x xs. refl }

-- entries of a table
pub types_walk : (functions : List Function) (d : Declarations) → IsWalk (types_fit functions d) (λ n own. type_fits functions d (entry_path (record { table = table.Type; at = n })) own)
unfolding entry_path
types_walk functions d = record { none = λ n. refl; more = λ n x xs. refl }

pub vtables_walk : (functions : List Function) (d : Declarations) → IsWalk (vtables_fit functions d) (λ n v. vtable_fits functions d (entry_path (record { table = table.Vtable; at = n })) v)
unfolding entry_path
vtables_walk functions d = record { none = λ n. refl; more = λ n x xs. refl }

pub aliases_walk : (functions : List Function) → IsWalk (aliases_fit functions) (λ n a. function_known functions (key (entry_path (record { table = table.Alias; at = n })) (codes "function")) a.function)
unfolding entry_path
aliases_walk functions = record { none = λ n. refl; more = λ n x xs. refl }

pub contracts_walk : (functions : List Function) (d : Declarations) → IsWalk (contracts_fit functions d) (λ n c. contract_fits functions d (entry_path (record { table = table.Contract; at = n })) c)
unfolding entry_path
contracts_walk functions d = record { none = λ n. refl; more = λ n x xs. refl }

pub loops_walk : (functions : List Function) (d : Declarations) → IsWalk (loops_fit functions d) (λ n rule. loop_fits functions d (entry_path (record { table = table.Loop; at = n })) rule)
unfolding entry_path
loops_walk functions d = record { none = λ n. refl; more = λ n x xs. refl }

pub units_walk : (functions : List Function) → IsWalk (units_fit functions) (λ n u. unit_fits functions (entry_path (record { table = table.Unit; at = n })) u)
unfolding entry_path
units_walk functions = record { none = λ n. refl; more = λ n x xs. refl }

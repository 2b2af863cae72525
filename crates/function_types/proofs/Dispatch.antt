-- The signature of a method behind a `dyn` type, by what was found of its trait, its slot, its vtable and its function.
use Rattle.std.proofs.Common.{◌≡◌, ℕ, List, Option, Some, slice_get, ap, ◌∙◌}
use Rattle.std.specs.Prelude.{option_and_then}
use Rattle.mir_ir.specs.declared.tree.Function.{Function}
use Rattle.mir_ir.specs.declared.declarations.Declarations.{Declarations}
use Rattle.mir_ir.specs.declared.declarations.TraitDecl.{TraitDecl}
use Rattle.mir_ir.specs.declared.declarations.VtableDecl.{VtableDecl}
use Rattle.type_rules.specs.declared.refusal.TypeKind.TheVariants as kind
use Rattle.type_rules.specs.Refusals.{OrRefused, ◌>>=◌, required}
use Rattle.type_rules.specs.Lookup.{first_vtable, function_named, trait_named}
use Rattle.type_rules.specs.Calls.{Method, Signature, dynamic_signature, method_signature, parameter_types, slot_of}

abbrev pub by_function : Method → Option Function → OrRefused Signature
by_function m g = required g kind.UnknownName >>= λ own. method_signature m.trait_name own.result (parameter_types own)

module _ (functions : List Function) (d : Declarations) (m : Method) where
  abbrev by_vtable : ℕ → Option VtableDecl → OrRefused Signature
  by_vtable slot v = required v kind.BadCall >>= λ own. by_function m (option_and_then (function_named functions) (slice_get own.methods slot))

  abbrev by_slot : Option ℕ → OrRefused Signature
  by_slot slot = required slot kind.UnknownName >>= λ own. by_vtable own (first_vtable d m.trait_name)

  abbrev by_trait : Option TraitDecl → OrRefused Signature
  by_trait t = required t kind.UnknownName >>= λ own. by_slot (slot_of own m.method)

  pub dispatched : (t : TraitDecl) (slot : ℕ) (v : VtableDecl) (g : Option Function) → Some t ≡ trait_named d m.trait_name → Some slot ≡ slot_of t m.method → Some v ≡ first_vtable d m.trait_name
      → g ≡ option_and_then (function_named functions) (slice_get v.methods slot) → by_function m g ≡ dynamic_signature functions d m
  dispatched t slot v g of_trait of_slot of_vtable of_function =
      ap (by_function m) of_function ∙ ap (by_vtable slot) of_vtable ∙ ap by_slot of_slot ∙ ap by_trait of_trait

-- The test whether the traits in a type are declared, by its form.
use Rattle.std.proofs.Common.{◌≡◌, ℕ, Bool, List, Option, None, Some, map, refl, ap, sym, ◌∙◌}
use Rattle.std.specs.Prelude.{is_some, option_copied}
use Rattle.std.specs.Borrow.{Bor}
use Rattle.mir_ir.specs.declared.types.Ty.{Ty}
use Rattle.mir_ir.specs.declared.types.Ty.TheVariants as ty
use Rattle.mir_ir.specs.declared.declarations.Declarations.{Declarations}
use Rattle.mir_ir.specs.declared.declarations.TraitDecl.{TraitDecl}
use Rattle.type_rules.specs.Lookup.{all_true, knows_traits, trait_named}
use Rattle.type_rules.proofs.KnownTraits.{knows_array, knows_box, knows_dyn, knows_raw, knows_ref, knows_slice, knows_tuple}

module _ (d : Declarations) (t : Ty) where
  -- a type with one part, which the parts of both are
  along : (made part : Ty) (other : Ty) (r : Bool) → knows_traits d made ≡ knows_traits d part → t ≡ made → other ≡ part → r ≡ knows_traits d other → r ≡ knows_traits d t
  along made part other r same is got h = h ∙ ap (knows_traits d) got ∙ sym same ∙ ap (knows_traits d) (sym is)

  pub known_tuple : (items others : List Ty) (r : Bool) → t ≡ ty.Tuple items → others ≡ items → r ≡ all_true (map (knows_traits d) others) → r ≡ knows_traits d t
  known_tuple items others r is got h =
      h ∙ ap (λ xs. all_true (map (knows_traits d) xs)) got ∙ sym (knows_tuple d items) ∙ ap (knows_traits d) (sym is)

  pub known_array : (item other : Ty) (n : ℕ) (r : Bool) → t ≡ ty.Array item n → other ≡ item → r ≡ knows_traits d other → r ≡ knows_traits d t
  known_array item other n r is got h = along (ty.Array item n) item other r (knows_array d item n) is got h

  pub known_slice : (item other : Ty) (r : Bool) → t ≡ ty.Slice item → other ≡ item → r ≡ knows_traits d other → r ≡ knows_traits d t
  known_slice item other r is got h = along (ty.Slice item) item other r (knows_slice d item) is got h

  pub known_ref : (target other : Ty) (m : Bool) (r : Bool) → t ≡ ty.Ref m target → other ≡ target → r ≡ knows_traits d other → r ≡ knows_traits d t
  known_ref target other m r is got h = along (ty.Ref m target) target other r (knows_ref d m target) is got h

  pub known_raw : (target other : Ty) (m : Bool) (r : Bool) → t ≡ ty.Raw m target → other ≡ target → r ≡ knows_traits d other → r ≡ knows_traits d t
  known_raw target other m r is got h = along (ty.Raw m target) target other r (knows_raw d m target) is got h

  pub known_box : (target other : Ty) (r : Bool) → t ≡ ty.BoxOf target → other ≡ target → r ≡ knows_traits d other → r ≡ knows_traits d t
  known_box target other r is got h = along (ty.BoxOf target) target other r (knows_box d target) is got h

  some_copied : (o : Option (Bor TraitDecl)) → is_some o ≡ is_some (option_copied o)
  some_copied None = refl
  some_copied (Some x) = refl

  pub known_dyn : (path name : List ℕ) (own : Option (Bor TraitDecl)) (r : Bool) → t ≡ ty.Dyn path → name ≡ path → option_copied own ≡ trait_named d name → r ≡ is_some own → r ≡ knows_traits d t
  known_dyn path name own r is got found h =
      h ∙ some_copied own ∙ ap is_some found ∙ ap (λ n. is_some (trait_named d n)) got ∙ sym (knows_dyn d path) ∙ ap (knows_traits d) (sym is)

-- A walk along a list that tests each item: the test of what is left is that of all.
use Rattle.std.proofs.Common.{◌≡◌, ℕ, suc, ◌+◌, ◌<◌, ◌≤◌, Bool, true, false, ◌&&◌, List, [], ◌∷◌, map, drop, length, refl, ap, sym, ◌∙◌, arith}
use Rattle.std.specs.Prelude.{slice_index_or}
use Rattle.std.proofs.Math.Seq.{drop-cons}
use Rattle.std.proofs.lemmas.List.{drop_all}
use Rattle.mir_ir.specs.declared.types.Ty.{Ty}
use Rattle.mir_ir.specs.declared.declarations.FieldDecl.{FieldDecl}
use Rattle.mir_ir.specs.declared.declarations.VariantDecl.{VariantDecl}
use Rattle.type_rules.specs.Lookup.{all_true, field_types}
use Rattle.type_rules.specs.Plain.{all_plain, variants_plain}

-- a test of a list by its items, from the first to the last
pub record IsWalk {X : Type 0} (whole : List X → Bool) (one : X → Bool) : Type 0 where
  pub none : whole [] ≡ true
  pub more : (x : X) (xs : List X) → whole (x ∷ xs) ≡ (one x && whole xs)

module _ {X : Type 0} {whole : List X → Bool} {one : X → Bool} (walk : IsWalk whole one) where
  behind : (xs : List X) (n : ℕ) (x : X) → n < length xs → x ≡ slice_index_or xs n x → whole (drop n xs) ≡ (one x && whole (drop (n + 1) xs))
  behind xs n x lt is =
      let next : suc n ≡ n + 1 = omega arith in
      ap whole (drop-cons xs n x lt) ∙ walk.more _ _ ∙ (λ i. one (sym is i) && whole (drop (next i) xs))

  -- an item that passes leaves the others
  pub walked_on : (xs : List X) (n : ℕ) (x : X) (b : Bool) → n < length xs → x ≡ slice_index_or xs n x → whole (drop n xs) ≡ whole xs → b ≡ one x → b ≡ true
      → whole (drop (n + 1) xs) ≡ whole xs
  walked_on xs n x b lt is h test passes = sym (sym h ∙ behind xs n x lt is ∙ ap (λ r. r && whole (drop (n + 1) xs)) (sym test ∙ passes))

  -- one that does not decides
  pub walked_off : (xs : List X) (n : ℕ) (x : X) (b : Bool) → n < length xs → x ≡ slice_index_or xs n x → whole (drop n xs) ≡ whole xs → b ≡ one x → b ≡ false
      → false ≡ whole xs
  walked_off xs n x b lt is h test fails = sym (sym h ∙ behind xs n x lt is ∙ ap (λ r. r && whole (drop (n + 1) xs)) (sym test ∙ fails))

  -- where all have passed, the list passes
  pub walked_through : (xs : List X) (n : ℕ) → length xs ≤ n → whole (drop n xs) ≡ whole xs → true ≡ whole xs
  walked_through xs n le h = sym walk.none ∙ ap whole (sym (drop_all n xs le)) ∙ h

-- tests of lists that are walks
pub all_true_walk : {X : Type 0} (f : X → Bool) → IsWalk (λ xs. all_true (map f xs)) f
all_true_walk f = record { none = refl; more = λ x xs. refl }

pub fields_walk : (f : Ty → Bool) → IsWalk {X = FieldDecl} (λ fs. all_plain f (field_types fs)) (λ x. f x.ty)
fields_walk f = record { none = refl; more = λ x xs. refl }

pub variants_walk : (f : Ty → Bool) → IsWalk {X = VariantDecl} (variants_plain f) (λ v. all_plain f (field_types v.fields))
variants_walk f = record { none = refl; more = λ x xs. refl }

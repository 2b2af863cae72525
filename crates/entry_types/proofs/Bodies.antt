-- The bodies of the functions of a text: a list that is copied item by item, and what a name finds in it.
use Rattle.std.proofs.Common.{◌≡◌, ℕ, suc, ◌+◌, ◌<◌, ◌≤◌, Bool, List, [], ◌∷◌, ◌++◌, Option, Some, None, take, length, slice_get, ap, sym, ◌∙◌, arith}
use Rattle.std.specs.Prelude.{slice_index_or}
use Rattle.std.proofs.Math.Seq.{take-suc}
use Rattle.std.proofs.lemmas.List.{take_all}
use Rattle.mir_ir.specs.declared.tree.Function.{Function}
use Rattle.type_rules.specs.Lookup.{function_named, is_name}
use Rattle.name_tables.specs.Found.{place_named}
use Rattle.name_tables.proofs.Finding.{find_none, find_some}

module _ {X : Type 0} where
  pub copied_more : (xs : List X) (n : ℕ) (x made : X) (old new : List X) → n < length xs → x ≡ slice_index_or xs n x → made ≡ x → new ≡ old ++ made ∷ [] → old ≡ take n xs
      → new ≡ take (n + 1) xs
  copied_more xs n x made old new lt is same pushed h =
      let next : suc n ≡ n + 1 = omega arith in
      pushed ∙ (λ i. h i ++ (same ∙ is) i ∷ []) ∙ sym (take-suc xs n x lt) ∙ ap (λ k. take k xs) next

  pub copied_all : (xs copies : List X) (n : ℕ) → length xs ≤ n → copies ≡ take n xs → copies ≡ xs
  copied_all xs copies n le h = h ∙ take_all n xs le

module _ (named all : List Function) (name : List ℕ) (is : named ≡ all) where
  abbrev has_name : Function → Bool
  has_name f = is_name name (Some f.name)

  pub none_named : None ≡ place_named (λ f. Some f.name) name named → None ≡ function_named all name
  none_named h = find_none has_name named h ∙ ap (λ fs. function_named fs name) is

  -- the body at the place of the name
  pub named_at : (bodies read : List Function) (n : ℕ) (r : Option Function) → bodies ≡ named → read ≡ bodies → Some n ≡ place_named (λ f. Some f.name) name named → r ≡ slice_get read n
      → r ≡ function_named all name
  named_at bodies read n r same got h found = find_some has_name named read n r (got ∙ same) h found ∙ ap (λ fs. function_named fs name) is

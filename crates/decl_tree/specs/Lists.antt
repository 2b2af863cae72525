-- What the elements of a list mean, one after the other, up to the first fault.
use Rattle.std.specs.Prelude.{ℕ, ◌+◌, List, [], ◌∷◌, ◌++◌, Option, Some, None, Result, Ok, Err}
use Rattle.toml.specs.Data.{Data, array, Items, no_items, item, get}
use Rattle.decl_tree.specs.declared.fault.DeclKind.TheVariants as kind
use Rattle.decl_tree.specs.declared.fault.KeyFault.{KeyFault}
use Rattle.decl_tree.specs.declared.labels.Label.{Label}
use Rattle.decl_tree.specs.Faults.{here, under, key_step, item_step, and_then}
use Rattle.decl_tree.specs.Labels.{with_labels}

module _ {A : Type 0} where
  abbrev pub marked : A → Option (List Label) → Result (A × List Label) KeyFault
  marked x None = here kind.Duplicate
  marked x (Some seen) = Ok (x, seen)

  -- an element, and the labels seen with its own; a duplicate where one of them was seen before
  abbrev pub fresh : List Label → Result (A × List Label) KeyFault → Result (A × List Label) KeyFault
  fresh seen (Ok e) = marked e.0 (with_labels seen e.1)
  fresh seen (Err f) = Err f

  abbrev pub prefixed : List A → Result (List A) KeyFault → Result (List A) KeyFault
  prefixed xs (Ok ys) = Ok (xs ++ ys)
  prefixed xs (Err f) = Err f

  module _ (one : ℕ → Data → Result (A × List Label) KeyFault) where
    -- the elements from this place on, where these labels were seen: each element in turn, then whether it is a duplicate
    abbrev pub each : ℕ → List Label → Items → Result (List A) KeyFault
    each at seen no_items = Ok []
    each at seen (item d ds) = and_then (under (item_step at) (fresh seen (one at d))) (λ e. prefixed (e.0 ∷ []) (each (at + 1) e.1 ds))

    abbrev pub elements : Option Data → Result (List A) KeyFault
    elements None = Ok []
    elements (Some (array ds)) = each 0 [] ds
    elements (Some _) = here kind.WrongKind

    -- the list that a key holds; an absent list is empty
    abbrev pub list_at : List ℕ → Data → Result (List A) KeyFault
    list_at key d = under (key_step key) (elements (get key d))

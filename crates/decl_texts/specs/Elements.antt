-- Elements of lists of texts.
use Rattle.std.specs.Prelude.{ℕ, List, [], Result, Ok}
use Rattle.toml.specs.Data.{Data}
use Rattle.vk_core.specs.declared.ids.LocalId.{LocalId}
use Rattle.mir_ir.specs.declared.places.PlaceExpr.{PlaceExpr}
use Rattle.decl_tree.specs.declared.fault.KeyFault.{KeyFault}
use Rattle.decl_tree.specs.declared.labels.Label.{Label}
use Rattle.decl_tree.specs.Faults.{and_then}
use Rattle.decl_tree.specs.Labels.{one_label}
use Rattle.decl_texts.specs.Texts.{path_in, word_in, place_in, local_in}

module _ {A : Type 0} where
  -- an element that may stand twice
  abbrev pub free : Result A KeyFault → Result (A × List Label) KeyFault
  free read = and_then read (λ x. Ok (x, []))

-- a text by itself is its label
abbrev pub named : Result (List ℕ) KeyFault → Result (List ℕ × List Label) KeyFault
named read = and_then read (λ x. Ok (x, one_label x []))

abbrev pub path_element : ℕ → Data → Result (List ℕ × List Label) KeyFault
path_element at d = free (path_in d)

-- no two words of a list are equal
abbrev pub word_element : ℕ → Data → Result (List ℕ × List Label) KeyFault
word_element at d = named (word_in d)

abbrev pub place_element : ℕ → Data → Result (PlaceExpr × List Label) KeyFault
place_element at d = free (place_in d)

abbrev pub local_element : ℕ → Data → Result (LocalId × List Label) KeyFault
local_element at d = free (local_in d)

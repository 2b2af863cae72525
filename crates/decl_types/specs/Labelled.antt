-- An entry with the label that no other entry of its table has.
use Rattle.std.specs.Prelude.{List, Result, Ok}
use Rattle.decl_tree.specs.declared.fault.KeyFault.{KeyFault}
use Rattle.decl_tree.specs.declared.labels.Label.{Label}
use Rattle.decl_tree.specs.Faults.{and_then}

abbrev pub labelled : {A : Type 0} → (A → List Label) → Result A KeyFault → Result (A × List Label) KeyFault
labelled labels read = and_then read (λ x. Ok (x, labels x))

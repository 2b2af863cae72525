-- A unit: `kind` (`proof` or `contract`), `function`, `unwind` (1 to 1,000, by default 20), `stubs` (functions).
use Rattle.std.specs.Prelude.{ℕ, List, [], ◌∷◌, codes, if◌then◌else◌, Option, Some, None, Result, Ok, ⊤}
use Rattle.std.specs.Str.{bytes_eq}
use Rattle.toml.specs.Data.{Data}
use Rattle.mir_ir.specs.declared.declarations.Unit.{Unit as UnitDecl}
use Rattle.mir_ir.specs.declared.declarations.UnitKind.{UnitKind}
use Rattle.mir_ir.specs.declared.declarations.UnitKind.TheVariants as sort
use Rattle.decl_tree.specs.declared.fault.KeyFault.{KeyFault}
use Rattle.decl_tree.specs.declared.labels.Label.{Label}
use Rattle.decl_tree.specs.Faults.{and_then}
use Rattle.decl_tree.specs.Labels.{one_label}
use Rattle.decl_tree.specs.Keys.{only_keys, needed, defaulted}
use Rattle.decl_tree.specs.Values.{number_in}
use Rattle.decl_tree.specs.Lists.{list_at}
use Rattle.decl_texts.specs.Texts.{path_in, read_as}
use Rattle.decl_texts.specs.Elements.{path_element}
use Rattle.decl_types.specs.Labelled.{labelled}
use Rattle.decl_file.specs.Gathered.{both}

abbrev pub unit_word : List ℕ → Option UnitKind
unit_word text = if bytes_eq text (codes "proof") then Some sort.Proof else (if bytes_eq text (codes "contract") then Some sort.Contract else None)

abbrev pub word_of_unit : UnitKind → List ℕ
word_of_unit sort.Proof = codes "proof"
word_of_unit sort.Contract = codes "contract"

abbrev pub unit_keys : List (List ℕ)
unit_keys = codes "kind" ∷ codes "function" ∷ codes "unwind" ∷ codes "stubs" ∷ []

abbrev pub UnitParts : Type 0
UnitParts = (((⊤ × UnitKind) × List ℕ) × ℕ) × List (List ℕ)

abbrev pub unit_of : Result UnitParts KeyFault → Result UnitDecl KeyFault
unit_of parts = and_then parts (λ p. Ok (record { name = p.0.0.1; kind = p.0.0.0.1; unwind = p.0.1; stubs = p.1 }))

abbrev pub unit_in : Data → Result UnitDecl KeyFault
unit_in d =
    unit_of (both (both (both (both (only_keys unit_keys d) (needed (codes "kind") (read_as unit_word) d)) (needed (codes "function") path_in d))
    (defaulted 20 (codes "unwind") (number_in 1 1000) d)) (list_at path_element (codes "stubs") d))

-- no two units are of one kind and function
abbrev pub unit_labels : UnitDecl → List Label
unit_labels u = one_label (word_of_unit u.kind) u.name

abbrev pub unit_entry : ℕ → Data → Result (UnitDecl × List Label) KeyFault
unit_entry at d = labelled unit_labels (unit_in d)

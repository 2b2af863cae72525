-- A constant: `name` (a path), `type` (an integer type, bool or char), `value` (a value text of the type). An alias:
-- `call` and `function` (paths).
use Rattle.std.specs.Prelude.{ℕ, List, [], ◌∷◌, codes, Result, Ok, ⊤}
use Rattle.toml.specs.Data.{Data}
use Rattle.mir_ir.specs.declared.declarations.ConstantDecl.{ConstantDecl}
use Rattle.mir_ir.specs.declared.declarations.AliasDecl.{AliasDecl}
use Rattle.decl_tree.specs.declared.fault.KeyFault.{KeyFault}
use Rattle.decl_tree.specs.declared.labels.Label.{Label}
use Rattle.decl_tree.specs.Faults.{and_then}
use Rattle.decl_tree.specs.Labels.{one_label}
use Rattle.decl_tree.specs.Keys.{only_keys, needed}
use Rattle.decl_texts.specs.Texts.{path_in, read_as, scalar_type_in}
use Rattle.decl_texts.specs.Decimals.{value_word}
use Rattle.decl_types.specs.Labelled.{labelled}
use Rattle.decl_file.specs.declared.names.TypedWord.{TypedWord}
use Rattle.decl_file.specs.Gathered.{both}

abbrev pub constant_keys : List (List ℕ)
constant_keys = codes "name" ∷ codes "type" ∷ codes "value" ∷ []

-- the type, then a value of it
abbrev pub typed_word : Data → Result TypedWord KeyFault
typed_word d =
    and_then (needed (codes "type") scalar_type_in d) (λ t. and_then (needed (codes "value") (read_as (value_word t.1)) d) (λ w. Ok (record { ty = t.0; word = w })))

abbrev pub ConstantParts : Type 0
ConstantParts = (⊤ × List ℕ) × TypedWord

abbrev pub constant_of : Result ConstantParts KeyFault → Result ConstantDecl KeyFault
constant_of parts = and_then parts (λ p. Ok (record { name = p.0.1; ty = p.1.ty; value = p.1.word }))

abbrev pub constant_in : Data → Result ConstantDecl KeyFault
constant_in d = constant_of (both (both (only_keys constant_keys d) (needed (codes "name") path_in d)) (typed_word d))

-- no two constants have one name
abbrev pub constant_labels : ConstantDecl → List Label
constant_labels c = one_label c.name []

abbrev pub constant_entry : ℕ → Data → Result (ConstantDecl × List Label) KeyFault
constant_entry at d = labelled constant_labels (constant_in d)

abbrev pub alias_keys : List (List ℕ)
alias_keys = codes "call" ∷ codes "function" ∷ []

abbrev pub AliasParts : Type 0
AliasParts = (⊤ × List ℕ) × List ℕ

abbrev pub alias_of : Result AliasParts KeyFault → Result AliasDecl KeyFault
alias_of parts = and_then parts (λ p. Ok (record { call = p.0.1; function = p.1 }))

abbrev pub alias_in : Data → Result AliasDecl KeyFault
alias_in d = alias_of (both (both (only_keys alias_keys d) (needed (codes "call") path_in d)) (needed (codes "function") path_in d))

-- no two aliases stand for one call
abbrev pub alias_labels : AliasDecl → List Label
alias_labels a = one_label a.call []

abbrev pub alias_entry : ℕ → Data → Result (AliasDecl × List Label) KeyFault
alias_entry at d = labelled alias_labels (alias_in d)

-- A field: `name` (a word, by default its position), `type`, `offset` (0 to 4,096).
use Rattle.std.specs.Prelude.{ℕ, List, [], ◌∷◌, codes, Result, Ok, ⊤}
use Rattle.std.specs.Fmt.{decimal}
use Rattle.toml.specs.Data.{Data}
use Rattle.mir_ir.specs.declared.types.Ty.{Ty}
use Rattle.mir_ir.specs.declared.declarations.FieldDecl.{FieldDecl}
use Rattle.decl_tree.specs.declared.fault.KeyFault.{KeyFault}
use Rattle.decl_tree.specs.declared.labels.Label.{Label}
use Rattle.decl_tree.specs.Faults.{and_then}
use Rattle.decl_tree.specs.Keys.{only_keys, needed, defaulted}
use Rattle.decl_tree.specs.Values.{number_in}
use Rattle.decl_tree.specs.Lists.{list_at}
use Rattle.decl_texts.specs.Texts.{type_in, word_in}

abbrev pub field_keys : List (List ℕ)
field_keys = codes "name" ∷ codes "type" ∷ codes "offset" ∷ []

-- the keys of a field in their order: the first fault of them, else the field
abbrev pub field_of : Result ⊤ KeyFault → Result (List ℕ) KeyFault → Result Ty KeyFault → Result ℕ KeyFault → Result (FieldDecl × List Label) KeyFault
field_of known name ty offset =
    and_then known (λ _. and_then name (λ n. and_then ty (λ t. and_then offset (λ o. Ok (record { name = n; ty = t; offset = o }, [])))))

abbrev pub field_entry : ℕ → Data → Result (FieldDecl × List Label) KeyFault
field_entry at d =
    field_of (only_keys field_keys d) (defaulted (decimal at) (codes "name") word_in d) (needed (codes "type") type_in d) (needed (codes "offset") (number_in 0 4096) d)

-- the fields of an entry
abbrev pub fields_at : Data → Result (List FieldDecl) KeyFault
fields_at d = list_at field_entry (codes "fields") d

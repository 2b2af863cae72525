-- A trait: `name` (a path), `methods` (words, no two of them equal). A vtable: `type`, `trait` (a path), `methods`
-- (functions).
use Rattle.std.specs.Prelude.{ℕ, List, [], ◌∷◌, codes, Result, Ok, ⊤}
use Rattle.toml.specs.Data.{Data}
use Rattle.mir_ir.specs.declared.types.Ty.{Ty}
use Rattle.mir_ir.specs.declared.declarations.TraitDecl.{TraitDecl}
use Rattle.mir_ir.specs.declared.declarations.VtableDecl.{VtableDecl}
use Rattle.canonical_text.specs.Types.{type_text}
use Rattle.decl_tree.specs.declared.fault.KeyFault.{KeyFault}
use Rattle.decl_tree.specs.declared.labels.Label.{Label}
use Rattle.decl_tree.specs.Faults.{and_then}
use Rattle.decl_tree.specs.Labels.{one_label}
use Rattle.decl_tree.specs.Keys.{only_keys, needed}
use Rattle.decl_tree.specs.Lists.{list_at}
use Rattle.decl_texts.specs.Texts.{path_in, type_in}
use Rattle.decl_texts.specs.Elements.{path_element, word_element}
use Rattle.decl_types.specs.Labelled.{labelled}
use Rattle.decl_file.specs.Gathered.{both}

abbrev pub trait_keys : List (List ℕ)
trait_keys = codes "name" ∷ codes "methods" ∷ []

abbrev pub TraitParts : Type 0
TraitParts = (⊤ × List ℕ) × List (List ℕ)

abbrev pub trait_of : Result TraitParts KeyFault → Result TraitDecl KeyFault
trait_of parts = and_then parts (λ p. Ok (record { name = p.0.1; methods = p.1 }))

abbrev pub trait_in : Data → Result TraitDecl KeyFault
trait_in d = trait_of (both (both (only_keys trait_keys d) (needed (codes "name") path_in d)) (list_at word_element (codes "methods") d))

-- no two traits have one name
abbrev pub trait_labels : TraitDecl → List Label
trait_labels t = one_label t.name []

abbrev pub trait_entry : ℕ → Data → Result (TraitDecl × List Label) KeyFault
trait_entry at d = labelled trait_labels (trait_in d)

abbrev pub vtable_keys : List (List ℕ)
vtable_keys = codes "type" ∷ codes "trait" ∷ codes "methods" ∷ []

abbrev pub VtableParts : Type 0
VtableParts = ((⊤ × Ty) × List ℕ) × List (List ℕ)

abbrev pub vtable_of : Result VtableParts KeyFault → Result VtableDecl KeyFault
vtable_of parts = and_then parts (λ p. Ok (record { ty = p.0.0.1; trait_name = p.0.1; methods = p.1 }))

abbrev pub vtable_in : Data → Result VtableDecl KeyFault
vtable_in d =
    vtable_of (both (both (both (only_keys vtable_keys d) (needed (codes "type") type_in d)) (needed (codes "trait") path_in d))
    (list_at path_element (codes "methods") d))

-- no two vtables have one type and one trait
abbrev pub vtable_labels : VtableDecl → List Label
vtable_labels v = one_label (type_text v.ty) v.trait_name

abbrev pub vtable_entry : ℕ → Data → Result (VtableDecl × List Label) KeyFault
vtable_entry at d = labelled vtable_labels (vtable_in d)

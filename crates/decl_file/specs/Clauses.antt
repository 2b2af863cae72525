-- A contract: `function`, `requires` and `ensures` (functions), `modifies` (places). A loop rule: `function`, `header`
-- (0 to 4,095), `invariant` (a function), `arguments` (locals), `modifies` (places).
use Rattle.std.specs.Prelude.{ℕ, List, [], ◌∷◌, codes, Result, Ok, ⊤}
use Rattle.std.specs.Fmt.{decimal}
use Rattle.toml.specs.Data.{Data}
use Rattle.vk_core.specs.declared.ids.LocalId.{LocalId}
use Rattle.mir_ir.specs.declared.places.PlaceExpr.{PlaceExpr}
use Rattle.mir_ir.specs.declared.declarations.Contract.{Contract}
use Rattle.mir_ir.specs.declared.declarations.LoopRule.{LoopRule}
use Rattle.decl_tree.specs.declared.fault.KeyFault.{KeyFault}
use Rattle.decl_tree.specs.declared.labels.Label.{Label}
use Rattle.decl_tree.specs.Faults.{and_then}
use Rattle.decl_tree.specs.Labels.{one_label}
use Rattle.decl_tree.specs.Keys.{only_keys, needed}
use Rattle.decl_tree.specs.Values.{number_in}
use Rattle.decl_tree.specs.Lists.{list_at}
use Rattle.decl_texts.specs.Texts.{path_in}
use Rattle.decl_texts.specs.Elements.{path_element, place_element, local_element}
use Rattle.decl_types.specs.Labelled.{labelled}
use Rattle.decl_file.specs.Gathered.{both}

abbrev pub contract_keys : List (List ℕ)
contract_keys = codes "function" ∷ codes "requires" ∷ codes "ensures" ∷ codes "modifies" ∷ []

abbrev pub ContractParts : Type 0
ContractParts = (((⊤ × List ℕ) × List (List ℕ)) × List (List ℕ)) × List PlaceExpr

abbrev pub contract_of : Result ContractParts KeyFault → Result Contract KeyFault
contract_of parts = and_then parts (λ p. Ok (record { function = p.0.0.0.1; required = p.0.0.1; ensured = p.0.1; modifies = p.1 }))

abbrev pub contract_in : Data → Result Contract KeyFault
contract_in d =
    contract_of (both (both (both (both (only_keys contract_keys d) (needed (codes "function") path_in d)) (list_at path_element (codes "requires") d))
    (list_at path_element (codes "ensures") d)) (list_at place_element (codes "modifies") d))

-- no two contracts are of one function
abbrev pub contract_labels : Contract → List Label
contract_labels c = one_label c.function []

abbrev pub contract_entry : ℕ → Data → Result (Contract × List Label) KeyFault
contract_entry at d = labelled contract_labels (contract_in d)

abbrev pub loop_keys : List (List ℕ)
loop_keys = codes "function" ∷ codes "header" ∷ codes "invariant" ∷ codes "arguments" ∷ codes "modifies" ∷ []

-- the loop, and the function that says what its rule is about
abbrev pub RuleParts : Type 0
RuleParts = ((⊤ × List ℕ) × ℕ) × List ℕ

abbrev pub rule_in : Data → Result RuleParts KeyFault
rule_in d =
    both (both (both (only_keys loop_keys d) (needed (codes "function") path_in d)) (needed (codes "header") (number_in 0 4095) d))
    (needed (codes "invariant") path_in d)

-- behind them what the invariant is given, and what the loop may change
abbrev pub LoopParts : Type 0
LoopParts = (RuleParts × List LocalId) × List PlaceExpr

abbrev pub loop_of : Result LoopParts KeyFault → Result LoopRule KeyFault
loop_of parts =
    and_then parts (λ p. Ok (record { function = p.0.0.0.0.1; header = record { 0 = p.0.0.0.1 }; invariant = p.0.0.1; arguments = p.0.1; modifies = p.1 }))

abbrev pub loop_in : Data → Result LoopRule KeyFault
loop_in d =
    loop_of (both (both (rule_in d) (list_at local_element (codes "arguments") d)) (list_at place_element (codes "modifies") d))

-- no two rules are of one function and header
abbrev pub loop_labels : LoopRule → List Label
loop_labels l = one_label l.function (decimal l.header.0)

abbrev pub loop_entry : ℕ → Data → Result (LoopRule × List Label) KeyFault
loop_entry at d = labelled loop_labels (loop_in d)

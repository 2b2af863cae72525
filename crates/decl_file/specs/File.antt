-- A declaration file: `version`, which is 1, and arrays of tables, with at most 4,096 types and 1,024 units. Faults are sought
-- in `version`, then among the other keys of the file, then in the tables in their order.
use Rattle.std.specs.Prelude.{ℕ, ◌+◌, nat_lt, Bool, false, List, [], ◌∷◌, drop, codes, if◌then◌else◌, Option, Some, None, Result, Ok, Err, ⊤}
use Rattle.std.specs.Str.{is_utf8}
use Rattle.toml.specs.Data.{Data, array, table, Items, no_items, item, get}
use Rattle.toml.specs.Parse.{parse_document}
use Rattle.toml.specs.Data.{Members}
use Rattle.mir_ir.specs.declared.declarations.Declarations.{Declarations}
use Rattle.mir_ir.specs.declared.declarations.TypeDecl.{TypeDecl}
use Rattle.mir_ir.specs.declared.declarations.TraitDecl.{TraitDecl}
use Rattle.mir_ir.specs.declared.declarations.VtableDecl.{VtableDecl}
use Rattle.mir_ir.specs.declared.declarations.ConstantDecl.{ConstantDecl}
use Rattle.mir_ir.specs.declared.declarations.AliasDecl.{AliasDecl}
use Rattle.mir_ir.specs.declared.declarations.Contract.{Contract}
use Rattle.mir_ir.specs.declared.declarations.LoopRule.{LoopRule}
use Rattle.mir_ir.specs.declared.declarations.Unit.{Unit as UnitDecl}
use Rattle.decl_tree.specs.declared.fault.DeclKind.TheVariants as kind
use Rattle.decl_tree.specs.declared.fault.KeyFault.{KeyFault}
use Rattle.decl_tree.specs.declared.labels.Label.{Label}
use Rattle.decl_tree.specs.Faults.{here, under, key_step, and_then}
use Rattle.decl_tree.specs.Keys.{only_keys, needed}
use Rattle.decl_tree.specs.Values.{number_in}
use Rattle.decl_tree.specs.Lists.{list_at}
use Rattle.decl_file.specs.declared.fault.DeclFault.{DeclFault}
use Rattle.decl_file.specs.declared.fault.DeclFault.TheVariants as answer
use Rattle.decl_types.specs.Types.{type_entry}
use Rattle.decl_file.specs.Traits.{trait_entry, vtable_entry}
use Rattle.decl_file.specs.Names.{constant_entry, alias_entry}
use Rattle.decl_file.specs.Clauses.{contract_entry, loop_entry}
use Rattle.decl_file.specs.Units.{unit_entry}
use Rattle.decl_file.specs.Gathered.{both}

abbrev pub file_keys : List (List ℕ)
file_keys = codes "version" ∷ codes "type" ∷ codes "trait" ∷ codes "vtable" ∷ codes "constant" ∷ codes "alias" ∷ codes "contract" ∷ codes "loop" ∷ codes "unit" ∷ []

-- how many elements a list has
abbrev pub count_of : Items → ℕ
count_of no_items = 0
count_of (item d ds) = count_of ds + 1

abbrev pub is_longer : ℕ → Option Data → Bool
is_longer most (Some (array ds)) = nat_lt most (count_of ds)
is_longer most _ = false

-- a list of at most so many entries
abbrev pub list_within : {A : Type 0} → ℕ → (ℕ → Data → Result (A × List Label) KeyFault) → List ℕ → Data → Result (List A) KeyFault
list_within most one key d = if is_longer most (get key d) then under (key_step key) (here kind.OutOfRange) else list_at one key d

-- a fault of the version comes before those of the other keys
abbrev pub head_of : Result ℕ KeyFault → Result ⊤ KeyFault → Result ⊤ KeyFault
head_of version known = and_then version (λ _. and_then known (λ _. Ok tt))

-- types, traits and vtables, behind what a file begins with
abbrev pub Shapes : Type 0
Shapes = ((⊤ × List TypeDecl) × List TraitDecl) × List VtableDecl

abbrev pub shapes_in : Data → Result Shapes KeyFault
shapes_in d =
    both (both (both (head_of (needed (codes "version") (number_in 1 1) d) (only_keys file_keys d)) (list_within 4096 type_entry (codes "type") d))
    (list_at trait_entry (codes "trait") d)) (list_at vtable_entry (codes "vtable") d)

-- behind them constants and aliases
abbrev pub Named : Type 0
Named = (Shapes × List ConstantDecl) × List AliasDecl

abbrev pub named_in : Data → Result Named KeyFault
named_in d = both (both (shapes_in d) (list_at constant_entry (codes "constant") d)) (list_at alias_entry (codes "alias") d)

-- behind them contracts and loop rules
abbrev pub Claims : Type 0
Claims = (Named × List Contract) × List LoopRule

abbrev pub claims_in : Data → Result Claims KeyFault
claims_in d = both (both (named_in d) (list_at contract_entry (codes "contract") d)) (list_at loop_entry (codes "loop") d)

-- behind them the units: the tables of a file
abbrev pub Tables : Type 0
Tables = Claims × List UnitDecl

abbrev pub file_of : Result Tables KeyFault → Result Declarations KeyFault
file_of tables =
    and_then tables (λ t. Ok (record {
      types = t.0.0.0.0.0.0.0.1;
      traits = t.0.0.0.0.0.0.1;
      vtables = t.0.0.0.0.0.1;
      constants = t.0.0.0.0.1;
      aliases = t.0.0.0.1;
      contracts = t.0.0.1;
      loops = t.0.1;
      units = t.1;
    }))

abbrev pub file_in : Data → Result Declarations KeyFault
file_in d = file_of (both (claims_in d) (list_within 1024 unit_entry (codes "unit") d))

-- a path begins with a key of the file, without a point before it
abbrev pub told : {A : Type 0} → Result A KeyFault → Result A DeclFault
told (Ok x) = Ok x
told (Err f) = Err (answer.Key f.kind (drop 1 f.path))

abbrev pub told_of : Option Members → Result Declarations DeclFault
told_of None = Err answer.NotToml
told_of (Some ms) = told (file_in (table ms))

-- bytes are a text where they are UTF-8
abbrev pub text_of : List ℕ → Option (List ℕ)
text_of bytes = if is_utf8 bytes then Some bytes else None

abbrev pub tree_in : Option (List ℕ) → Option Members
tree_in None = None
tree_in (Some text) = parse_document text

abbrev pub tree_of : List ℕ → Option Members
tree_of bytes = tree_in (text_of bytes)

-- what the bytes of a declaration file declare, or their first fault
unfoldable pub declared_by : List ℕ → Result Declarations DeclFault
declared_by bytes = told_of (tree_of bytes)

-- What a file declares is well made.
use Rattle.std.proofs.Common.{◌≡◌, ℕ, ◌≤◌, List, [], length, codes, Option, Some, None, Result, Ok, Err, subst, le_refl}
use Rattle.toml.specs.Data.{Data, Members, table}
use Rattle.mir_ir.specs.declared.declarations.Declarations.{Declarations}
use Rattle.mir_program.specs.Entries.{AreDeclarations}
use Rattle.decl_counts.specs.Counts.{AreCountable}
use Rattle.decl_tree.specs.declared.fault.KeyFault.{KeyFault}
use Rattle.decl_tree.specs.declared.labels.Label.{Label}
use Rattle.decl_tree.specs.Keys.{needed, only_keys}
use Rattle.decl_tree.specs.Lists.{list_at}
use Rattle.decl_tree.specs.Values.{number_in}
use Rattle.decl_types.specs.Types.{type_entry}
use Rattle.decl_file.specs.Clauses.{contract_entry, loop_entry}
use Rattle.decl_file.specs.File.{claims_in, declared_by, file_in, file_keys, head_of, list_within, named_in, shapes_in, told, told_of, tree_of}
use Rattle.decl_file.specs.Gathered.{both}
use Rattle.decl_file.specs.Names.{alias_entry, constant_entry}
use Rattle.decl_file.specs.Traits.{trait_entry, vtable_entry}
use Rattle.decl_file.specs.Units.{unit_entry}
use Rattle.decl_laws.proofs.Lists.{AreKept, list_kept, within_ok}
use Rattle.decl_laws.proofs.Outcomes.{and_then_ok, both_ok, ok_same}
use Rattle.decl_laws.proofs.TablesMade.{IsAliasRead, IsConstantRead, IsContractRead, IsLoopRead, IsTraitRead, IsUnitRead, IsVtableRead, alias_read, aliases_apart, constant_read, constants_apart, constants_made, contract_read, contracts_apart, loop_read, loops_apart, loops_made, trait_read, traits_apart, traits_made, unit_read, units_apart, units_made, vtable_read, vtables_apart}
use Rattle.decl_laws.proofs.TypesMade.{IsTypeRead, type_read, types_apart, types_made}

-- the lists of the tables, each of which was read
record AreRead (d : Declarations) : Type 0 where
  types : AreKept IsTypeRead [] d.types
  few_types : length d.types ≤ 4096
  traits : AreKept IsTraitRead [] d.traits
  vtables : AreKept IsVtableRead [] d.vtables
  constants : AreKept IsConstantRead [] d.constants
  aliases : AreKept IsAliasRead [] d.aliases
  contracts : AreKept IsContractRead [] d.contracts
  loops : AreKept IsLoopRead [] d.loops
  units : AreKept IsUnitRead [] d.units
  few_units : length d.units ≤ 1024

all_kept : {A : Type 0} (one : ℕ → Data → Result (A × List Label) KeyFault) (Entry : A → List Label → Type 0) → ((at : ℕ) (d : Data) (x : A) (ls : List Label) → one at d ≡ Ok (x, ls) → Entry x ls)
    → (key : List ℕ) (d : Data) (xs : List A) → list_at one key d ≡ Ok xs → AreKept Entry [] xs
all_kept one Entry reads key d xs e = list_kept one Entry (length xs) (λ at c x ls l r. reads at c x ls r) key d xs (le_refl (length xs)) e

file_ok : (f : Data) (d : Declarations) → file_in f ≡ Ok d → AreRead d
file_ok f d e =
    let head = head_of (needed (codes "version") (number_in 1 1) f) (only_keys file_keys f) in
    let types = list_within 4096 type_entry (codes "type") f in
    let traits = list_at trait_entry (codes "trait") f in
    let vtables = list_at vtable_entry (codes "vtable") f in
    let constants = list_at constant_entry (codes "constant") f in
    let aliases = list_at alias_entry (codes "alias") f in
    let contracts = list_at contract_entry (codes "contract") f in
    let loops = list_at loop_entry (codes "loop") f in
    let units = list_within 1024 unit_entry (codes "unit") f in
    let t = and_then_ok (both (claims_in f) units) (λ t. Ok (record {
      types = t.0.0.0.0.0.0.0.1;
      traits = t.0.0.0.0.0.0.1;
      vtables = t.0.0.0.0.0.1;
      constants = t.0.0.0.0.1;
      aliases = t.0.0.0.1;
      contracts = t.0.0.1;
      loops = t.0.1;
      units = t.1;
    })) d e in
    let u = both_ok (claims_in f) units t.0 t.1 in
    let l = both_ok (both (named_in f) contracts) loops t.0.0 u.0 in
    let c = both_ok (named_in f) contracts t.0.0.0 l.0 in
    let a = both_ok (both (shapes_in f) constants) aliases t.0.0.0.0 c.0 in
    let k = both_ok (shapes_in f) constants t.0.0.0.0.0 a.0 in
    let v = both_ok (both (both head types) traits) vtables t.0.0.0.0.0.0 k.0 in
    let r = both_ok (both head types) traits t.0.0.0.0.0.0.0 v.0 in
    let y = both_ok head types t.0.0.0.0.0.0.0.0 r.0 in
    let few = within_ok type_entry 4096 (codes "type") f t.0.0.0.0.0.0.0.0.1 y.1 in
    let some = within_ok unit_entry 1024 (codes "unit") f t.0.1 u.1 in
    subst AreRead (ok_same (record {
      types = t.0.0.0.0.0.0.0.0.1;
      traits = t.0.0.0.0.0.0.0.1;
      vtables = t.0.0.0.0.0.0.1;
      constants = t.0.0.0.0.0.1;
      aliases = t.0.0.0.0.1;
      contracts = t.0.0.0.1;
      loops = t.0.0.1;
      units = t.0.1;
    }) d t.2) (record {
      types = all_kept type_entry IsTypeRead type_read (codes "type") f t.0.0.0.0.0.0.0.0.1 few.1;
      few_types = few.0;
      traits = all_kept trait_entry IsTraitRead trait_read (codes "trait") f t.0.0.0.0.0.0.0.1 r.1;
      vtables = all_kept vtable_entry IsVtableRead vtable_read (codes "vtable") f t.0.0.0.0.0.0.1 v.1;
      constants = all_kept constant_entry IsConstantRead constant_read (codes "constant") f t.0.0.0.0.0.1 k.1;
      aliases = all_kept alias_entry IsAliasRead alias_read (codes "alias") f t.0.0.0.0.1 a.1;
      contracts = all_kept contract_entry IsContractRead contract_read (codes "contract") f t.0.0.0.1 c.1;
      loops = all_kept loop_entry IsLoopRead loop_read (codes "loop") f t.0.0.1 l.1;
      units = all_kept unit_entry IsUnitRead unit_read (codes "unit") f t.0.1 some.1;
      few_units = some.0;
    })

read_made : (d : Declarations) → AreRead d → AreCountable d → AreDeclarations d
read_made d r c = record {
  types = types_made d.types r.types c.types;
  type_count = r.few_types;
  types_apart = types_apart d.types r.types;
  traits = traits_made d.traits r.traits c.traits;
  trait_count = c.trait_count;
  traits_apart = traits_apart d.traits r.traits;
  vtables = c.vtables;
  vtable_count = c.vtable_count;
  vtables_apart = vtables_apart d.vtables r.vtables;
  constants = constants_made d.constants r.constants;
  constants_apart = constants_apart d.constants r.constants;
  aliases_apart = aliases_apart d.aliases r.aliases;
  contracts_apart = contracts_apart d.contracts r.contracts;
  loops = loops_made d.loops r.loops;
  loops_apart = loops_apart d.loops r.loops;
  units = units_made d.units r.units;
  unit_count = r.few_units;
  units_apart = units_apart d.units r.units;
}

told_ok : {A : Type 0} (r : Result A KeyFault) (x : A) → told r ≡ Ok x → r ≡ Ok x
told_ok (Ok y) x e = let same : y ≡ x = cc in λ i. Ok (same i)
told_ok (Err f) x e = absurd cc

tree_ok : (tree : Option Members) (d : Declarations) → told_of tree ≡ Ok d → AreRead d
tree_ok None d e = absurd cc
tree_ok (Some ms) d e = file_ok (table ms) d (told_ok (file_in (table ms)) d e)

pub file_made : (bytes : List ℕ) (d : Declarations) → declared_by bytes ≡ Ok d → AreCountable d → AreDeclarations d
unfolding declared_by
file_made bytes d e c = read_made d (tree_ok (tree_of bytes) d e) c

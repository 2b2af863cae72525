-- The paths of keys and list elements in the entries of a declaration file, and refusals there.
use Rattle.std.specs.Prelude.{List, ℕ, Result, Ok, Err, codes}
use Rattle.vk_core.specs.declared.check.At.TheVariants as at_
use Rattle.type_rules.specs.declared.refusal.Refusal.{Refusal}
use Rattle.type_rules.specs.Code.{Refused}
use Rattle.type_rules.specs.Entries.{element, key}
use Rattle.entry_types.specs.declared.paths.EntryTable.{EntryTable}
use Rattle.entry_types.specs.declared.paths.EntryTable.TheVariants as table
use Rattle.entry_types.specs.declared.paths.EntryKey.{EntryKey}
use Rattle.entry_types.specs.declared.paths.EntryKey.TheVariants as key_of
use Rattle.entry_types.specs.declared.paths.Entry.{Entry}
use Rattle.entry_types.specs.declared.paths.ListPath.{ListPath}
use Rattle.entry_types.specs.declared.paths.ListPath.TheVariants as list
use Rattle.entry_types.specs.declared.paths.KeyPath.{KeyPath}
use Rattle.entry_types.specs.declared.paths.KeyPath.TheVariants as path
use Rattle.entry_types.specs.declared.paths.Misfit.{Misfit}

abbrev pub table_word : EntryTable → List ℕ
table_word table.Type = codes "type"
table_word table.Vtable = codes "vtable"
table_word table.Alias = codes "alias"
table_word table.Contract = codes "contract"
table_word table.Loop = codes "loop"
table_word table.Unit = codes "unit"

abbrev pub key_word : EntryKey → List ℕ
key_word key_of.Name = codes "name"
key_word key_of.Fields = codes "fields"
key_word key_of.Drop = codes "drop"
key_word key_of.Type = codes "type"
key_word key_of.Trait = codes "trait"
key_word key_of.Methods = codes "methods"
key_word key_of.Function = codes "function"
key_word key_of.Requires = codes "requires"
key_word key_of.Ensures = codes "ensures"
key_word key_of.Modifies = codes "modifies"
key_word key_of.Header = codes "header"
key_word key_of.Invariant = codes "invariant"
key_word key_of.Arguments = codes "arguments"
key_word key_of.Stubs = codes "stubs"

-- `type[0]`
unfoldable pub entry_path : Entry → List ℕ
entry_path e = element (table_word e.table) e.at

-- `type[0].fields` and `type[0].variants[1].fields`
abbrev pub list_path : ListPath → List ℕ
list_path (list.AtKey e k) = key (entry_path e) (key_word k)
list_path (list.OfVariant e n) = key (element (key (entry_path e) (codes "variants")) n) (codes "fields")

-- `type[0].name`, `vtable[0].methods[1]` and `type[0].fields[2].type`
abbrev pub key_path : KeyPath → List ℕ
key_path (path.Key e k) = key (entry_path e) (key_word k)
key_path (path.Element l n) = element (list_path l) n
key_path (path.ElementType l n) = key (element (list_path l) n) (codes "type")

-- with the path written
abbrev pub refusal_of : Misfit → Refusal
refusal_of m = record { kind = m.kind; at = at_.Entry (key_path m.path) }

-- what an answer with a path that is not written says
abbrev pub told : Result (Unit {0}) Misfit → Refused
told (Ok _) = Ok tt
told (Err m) = Err (refusal_of m)

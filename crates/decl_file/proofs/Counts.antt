-- Counts of lists, and tables as values.
use Rattle.std.proofs.Common.{◌≡◌, List, [], ◌∷◌, length, refl, arith, BTreeMap, String, Global}
use Rattle.toml.specs.Data.{table}
use Rattle.toml.specs.declared.value.Value.{Value, Table}
use Rattle.toml.specs.View.{view, items_view, table_view}
use Rattle.toml.proofs.Views.{view-Table}
use Rattle.decl_file.specs.File.{count_of}

pub counted : (vs : List Value) → count_of (items_view vs) ≡ length vs
counted [] = refl
counted (v ∷ vs) = let e = counted vs in omega (arith, e)

pub viewed_table : (m : BTreeMap (String Global) Value) → view (Table m) ≡ table (table_view m)
viewed_table m = view-Table m

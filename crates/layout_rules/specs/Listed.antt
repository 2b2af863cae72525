-- How the types of values are kept.
use Rattle.std.specs.Prelude.{◌≡◌, ℕ, List, bytes_eq}
use Rattle.std.specs.List.{list_any}
use Rattle.indexmap.specs.IndexSet.{contains_by}
use Rattle.type_layouts.specs.declared.row.Row.{Row}
use Rattle.layout_rules.specs.declared.values.Values.TheInside.{Inside}
use Rattle.layout_rules.specs.Rules.{is_value_of}

abbrev pub rows_in : Inside → List Row
rows_in v = v.rows.now

-- a text is kept where a value of a slice or dyn type of this text stands
pub record IsListed (v : Inside) : Type 0 where
  pub listed : (text : List ℕ) → contains_by (λ k. bytes_eq text k.items) v.texts ≡ list_any (is_value_of text) v.rows.now

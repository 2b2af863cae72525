use Rattle.std.proofs.Common.{◌≡◌, ◌||◌, ℕ, List, bytes_eq, drop}
use Rattle.std.specs.List.{list_any}
use Rattle.indexmap.specs.IndexSet.{contains_by}
use Rattle.layout_rules.specs.Rules.{is_value_of}
use Rattle.layout_rules.proofs.values.Values.new.Given as goal

abbrev pub invariant-loop-row : goal.invariant-loop-row
invariant-loop-row l = (text : List ℕ) → (contains_by (λ k. bytes_eq text k.items) l.texts || list_any (is_value_of text) (drop l.row-index l.rows)) ≡ list_any (is_value_of text) l.rows

use Rattle.std.proofs.Common.{◌≡◌, ◌≤◌, ℕ, List, bytes_eq, drop, length}
use Rattle.std.specs.List.{position_from}
use Rattle.indexmap.specs.IndexMap.{get_by}
use Rattle.type_rules.specs.Lookup.{is_name}
use Rattle.name_tables.proofs.table.Table.new.Given as goal

abbrev pub invariant-loop-place : goal.invariant-loop-place
invariant-loop-place g l = record {
  within : l.place ≤ length l.items;
  found : (name : List ℕ) → get_by (λ k. bytes_eq name k.now) l.places ≡ position_from (λ x. is_name name (g.T.Named.name_of x)) l.place (drop l.place l.items);
}

abbrev pub decreases-loop-place : goal.decreases-loop-place
decreases-loop-place g l = l.place

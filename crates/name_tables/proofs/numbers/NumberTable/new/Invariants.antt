use Rattle.std.proofs.Common.{◌≡◌, ◌≤◌, ◌==◌, ℕ, drop, length}
use Rattle.std.specs.Prelude.{nat_eq}
use Rattle.std.specs.List.{position_from}
use Rattle.indexmap.specs.IndexMap.{get_by}
use Rattle.name_tables.proofs.numbers.NumberTable.new.Given as goal

abbrev pub invariant-loop-place : goal.invariant-loop-place
invariant-loop-place g l = record {
  within : l.place ≤ length l.items;
  found : (number : ℕ) → get_by (nat_eq number) l.places ≡ position_from (λ x. g.T.Numbered.number_of x == number) l.place (drop l.place l.items);
}

abbrev pub decreases-loop-place : goal.decreases-loop-place
decreases-loop-place g l = l.place

use Rattle.std.proofs.Common.{◌≡◌, ◌-◌, drop, length, map}
use Rattle.type_rules.specs.Lookup.{all_true, knows_traits}
use Rattle.name_tables.proofs.declared.Declared.+traits.Given as goal

abbrev pub invariant-knows_all-loop-place : goal.invariant-knows_all-loop-place
invariant-knows_all-loop-place l = all_true (map (knows_traits l.self) (drop l.place l.types)) ≡ all_true (map (knows_traits l.self) l.types)

abbrev pub decreases-knows_all-loop-place : goal.decreases-knows_all-loop-place
decreases-knows_all-loop-place l = length l.types - l.place

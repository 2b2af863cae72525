use Rattle.std.proofs.Common.{◌≡◌, ◌-◌, drop, length, map}
use Rattle.type_rules.specs.Lookup.{all_true}
use Rattle.name_tables.specs.Plain.{plain_by}
use Rattle.name_tables.proofs.plain.+plain.Given as goal

abbrev pub invariant-are_plain_by-loop-place : goal.invariant-are_plain_by-loop-place
invariant-are_plain_by-loop-place l = all_true (map (plain_by l.types l.marks) (drop l.place l.items)) ≡ all_true (map (plain_by l.types l.marks) l.items)

abbrev pub decreases-are_plain_by-loop-place : goal.decreases-are_plain_by-loop-place
decreases-are_plain_by-loop-place l = length l.items - l.place

use Rattle.std.proofs.Common.{◌≡◌, ◌-◌, drop, length}
use Rattle.type_rules.specs.Lookup.{field_types}
use Rattle.type_rules.specs.Plain.{all_plain}
use Rattle.name_tables.specs.Plain.{plain_by}
use Rattle.name_tables.proofs.plain.fields_plain.Given as goal

abbrev pub invariant-loop-place : goal.invariant-loop-place
invariant-loop-place l = all_plain (plain_by l.types l.marks) (field_types (drop l.place l.fields)) ≡ all_plain (plain_by l.types l.marks) (field_types l.fields)

abbrev pub decreases-loop-place : goal.decreases-loop-place
decreases-loop-place l = length l.fields - l.place

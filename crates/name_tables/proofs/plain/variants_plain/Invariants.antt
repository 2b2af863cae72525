use Rattle.std.proofs.Common.{◌≡◌, ◌-◌, drop, length}
use Rattle.type_rules.specs.Plain.{variants_plain}
use Rattle.name_tables.specs.Plain.{plain_by}
use Rattle.name_tables.proofs.plain.variants_plain.Given as goal

abbrev pub invariant-loop-place : goal.invariant-loop-place
invariant-loop-place l = variants_plain (plain_by l.types l.marks) (drop l.place l.variants) ≡ variants_plain (plain_by l.types l.marks) l.variants

abbrev pub decreases-loop-place : goal.decreases-loop-place
decreases-loop-place l = length l.variants - l.place

use Rattle.std.proofs.Common.{◌≡◌, ◌≤◌, ◌-◌, length, map, take}
use Rattle.name_tables.specs.Plain.{own_plain, plain_by}
use Rattle.name_tables.proofs.plain.next_marks.Given as goal

abbrev pub invariant-loop-place : goal.invariant-loop-place
invariant-loop-place l = (l.place ≤ length l.all) × (l.next.items ≡ map (own_plain (plain_by l.types l.marks)) (take l.place l.all))

abbrev pub decreases-loop-place : goal.decreases-loop-place
decreases-loop-place l = length l.all - l.place

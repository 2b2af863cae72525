use Rattle.std.proofs.Common.{◌≡◌, ◌≤◌, ◌-◌, false, length, map, take}
use Rattle.name_tables.proofs.plain.no_marks.Given as goal

abbrev pub invariant-loop-place : goal.invariant-loop-place
invariant-loop-place l = (l.place ≤ length l.types) × (l.marks.items ≡ map (λ own. false) (take l.place l.types))

abbrev pub decreases-loop-place : goal.decreases-loop-place
decreases-loop-place l = length l.types - l.place

use Rattle.std.proofs.Common.{◌≡◌, ◌≤◌, ◌-◌}
use Rattle.name_tables.specs.Plain.{marks_after}
use Rattle.name_tables.proofs.plain.plain_marks.Given as goal

abbrev pub invariant-loop-round : goal.invariant-loop-round
invariant-loop-round l = (l.round ≤ l.count) × (l.marks.items ≡ marks_after l.types l.round)

abbrev pub decreases-loop-round : goal.decreases-loop-round
decreases-loop-round l = l.count - l.round

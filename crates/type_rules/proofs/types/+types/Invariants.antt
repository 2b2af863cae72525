use Rattle.std.proofs.Common.{length, ◌-◌, ◌≡◌, drop}
use Rattle.type_rules.specs.Types.{same_types}
use Rattle.type_rules.proofs.types.+types.Given as goal

-- what is left of both lists tells whether they are the same
abbrev pub invariant-same_types-loop-place : goal.invariant-same_types-loop-place
invariant-same_types-loop-place l = (length l.fn.a ≡ length l.fn.b) × (same_types (drop l.place l.fn.a) (drop l.place l.fn.b) ≡ same_types l.fn.a l.fn.b)

abbrev pub decreases-same_types-loop-place : goal.decreases-same_types-loop-place
decreases-same_types-loop-place l = length l.a - l.place

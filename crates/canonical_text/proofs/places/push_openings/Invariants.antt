use Rattle.std.proofs.Common.{◌≡◌, ◌++◌, ◌≤◌, length, take}
use Rattle.canonical_text.specs.Places.{openings}
use Rattle.canonical_text.proofs.places.push_openings.Given as goal

abbrev pub invariant-loop-at : goal.invariant-loop-at
invariant-loop-at l = (l.at ≤ length l.steps) × (l.out.items ++ openings (take l.at l.steps) ≡ l.initial.out.items ++ openings l.steps)

abbrev pub decreases-loop-at : goal.decreases-loop-at
decreases-loop-at l = l.at

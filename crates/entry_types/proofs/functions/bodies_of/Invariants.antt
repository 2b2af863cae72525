use Rattle.std.proofs.Common.{◌≡◌, ◌-◌, length, take}
use Rattle.entry_types.proofs.functions.bodies_of.Given as goal

abbrev pub invariant-loop-at : goal.invariant-loop-at
invariant-loop-at l = l.bodies.items ≡ take l.at l.functions

abbrev pub decreases-loop-at : goal.decreases-loop-at
decreases-loop-at l = length l.functions - l.at

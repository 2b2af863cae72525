use Rattle.std.proofs.Common.{◌≡◌, ◌≤◌, length, take, vec_len}
use Rattle.sat_core.specs.Trail.{IsPlaced}
use Rattle.sat_core.proofs.trail.Trail.cut.Given as goal

abbrev pub invariant-loop-self : goal.invariant-loop-self
invariant-loop-self l = record {
  placed : IsPlaced l.self-inside.variables l.self-inside.places.items l.self-inside.steps.items;
  same : l.self-inside.variables ≡ l.fn.self.variables;
  kept : l.at ≤ length l.self-inside.steps.items;
  prefix : l.self-inside.steps.items ≡ take (length l.self-inside.steps.items) l.fn.self.steps;
}

abbrev pub decreases-loop-self : goal.decreases-loop-self
decreases-loop-self l = vec_len l.self-inside.steps

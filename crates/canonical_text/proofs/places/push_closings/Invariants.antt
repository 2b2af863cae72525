use Rattle.std.proofs.Common.{◌≡◌, ◌++◌, drop}
use Rattle.canonical_text.specs.Places.{closings}
use Rattle.canonical_text.proofs.places.push_closings.Given as goal

abbrev pub invariant-loop-step : goal.invariant-loop-step
invariant-loop-step l = l.out.items ++ closings (drop l.step-index l.steps) ≡ l.initial.out.items ++ closings l.steps

use Rattle.std.proofs.Common.{◌≡◌, ◌-◌, drop, length}
use Rattle.type_rules.specs.Places.{after_steps}
use Rattle.code_types.specs.Views.{place_seen}
use Rattle.code_types.proofs.places.after_steps.Given as goal

abbrev pub invariant-loop-taken : goal.invariant-loop-taken
invariant-loop-taken l = after_steps l.declared l.body (place_seen l.reached) (drop l.taken l.steps) ≡ after_steps l.declared l.body (place_seen l.place) l.steps

abbrev pub decreases-loop-taken : goal.decreases-loop-taken
decreases-loop-taken l = length l.steps - l.taken

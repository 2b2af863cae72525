use Rattle.std.proofs.Common.{◌≡◌, take}
use Rattle.sat_core.specs.Learned.{gather, hints_of_role}
use Rattle.sat_core.proofs.learn.write_hints.Given as goal

abbrev pub invariant-loop-at : goal.invariant-loop-at
invariant-loop-at l = l.hints.items ≡ gather hints_of_role (take l.at l.trail.steps) (take l.at l.roles)

use Rattle.std.proofs.Common.{◌≡◌, take}
use Rattle.sat_core.specs.Learned.{gather, literals_of_role}
use Rattle.sat_core.proofs.learn.write_literals.Given as goal

abbrev pub invariant-loop-at : goal.invariant-loop-at
invariant-loop-at l = l.literals.items ≡ gather literals_of_role (take l.at l.trail.steps) (take l.at l.roles)

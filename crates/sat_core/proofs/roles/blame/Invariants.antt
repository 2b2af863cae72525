use Rattle.std.proofs.Common.{take}
use Rattle.sat_core.specs.Roles.{Blames}
use Rattle.sat_core.proofs.roles.blame.Given as goal

abbrev pub invariant-loop-literal : goal.invariant-loop-literal
invariant-loop-literal l = Blames l.trail.steps (take l.literal-index l.clause) l.initial.roles l.roles

use Rattle.std.proofs.Common.{take}
use Rattle.sat_core.specs.Choice.{ChanceIs}
use Rattle.sat_core.specs.Steps.{literals_of_steps}
use Rattle.sat_core.proofs.choice.offer_of.Given as goal

abbrev pub invariant-loop-literal : goal.invariant-loop-literal
invariant-loop-literal l = ChanceIs (literals_of_steps l.trail.steps) l.clause (take l.literal-index l.clause) l.open

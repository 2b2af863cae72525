use Rattle.std.proofs.Common.{take}
use Rattle.refute_check.specs.Marks.{true_literals}
use Rattle.refute_check.proofs.StandingFacts.{StandsSoFar}
use Rattle.refute_check.proofs.propagation.standing_of.Given as goal

-- how the literals so far stand
abbrev pub invariant-loop-literal : goal.invariant-loop-literal
invariant-loop-literal l = StandsSoFar (true_literals l.stamp l.marks) (take l.literal-index l.clause) l.forced

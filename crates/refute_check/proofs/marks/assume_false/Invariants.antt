use Rattle.std.proofs.Common.{take}
use Rattle.region_pool.specs.Refutation.{negations}
use Rattle.refute_check.specs.Marks.{true_literals, ArePast, IsSameSet}
use Rattle.refute_check.proofs.marks.assume_false.Given as goal

-- the literals so far are false, and nothing else is assumed
abbrev pub invariant-loop-literal : goal.invariant-loop-literal
invariant-loop-literal l = record {
  past : ArePast l.stamp l.marks;
  assumed : IsSameSet (negations (take l.literal-index l.literals)) (true_literals l.stamp l.marks);
}

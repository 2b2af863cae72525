use Rattle.std.proofs.Common.{◌≡◌, length}
use Rattle.scalar_terms.specs.Sweeps.{AreSwept}
use Rattle.scalar_terms.proofs.sweep.pass_all.Given as goal

abbrev pub invariant-loop-number : goal.invariant-loop-number
invariant-loop-number l = record {
  same : length l.ways ≡ length l.fn.ways;
  swept : AreSwept l.function l.terms l.ways l.failures.items l.number;
}

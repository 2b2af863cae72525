use Rattle.std.proofs.Common.{ℕ}
use Rattle.sum_circuits.specs.Chain.{IsWide}
use Rattle.sum_circuits.proofs.chain.add_steps.Given as goal

abbrev pub invariant-loop : goal.invariant-loop
invariant-loop l = record {
  sum : IsWide l.terms l.sum.0;
  kept : (id : ℕ) → IsWide l.fn.terms id → IsWide l.terms id;
}

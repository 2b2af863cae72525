use Rattle.std.proofs.Common.{◌≡◌, None, replicate}
use Rattle.scalar_terms.proofs.starts.no_ways.Given as goal

abbrev pub invariant-loop : goal.invariant-loop
invariant-loop l = l.ways.items ≡ replicate l.counter None

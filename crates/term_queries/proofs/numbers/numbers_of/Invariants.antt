use Rattle.std.proofs.Common.{false}
use Rattle.std.specs.Prelude.{slice_index_or}
use Rattle.term_queries.specs.Numbers.{HaveBits}
use Rattle.term_queries.proofs.numbers.numbers_of.Given as goal

abbrev pub invariant-loop-place : goal.invariant-loop-place
invariant-loop-place l = HaveBits l.inputs (λ v. slice_index_or l.values v false) l.numbers.items l.place

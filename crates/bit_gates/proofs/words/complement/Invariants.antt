use Rattle.std.proofs.Common.{◌≡◌, take}
use Rattle.std.specs.Prelude.{map}
use Rattle.region_pool.specs.Literals.{negation}
use Rattle.bit_gates.proofs.words.complement.Given as goal

abbrev pub invariant-loop-x : goal.invariant-loop-x
invariant-loop-x l = l.literals.items ≡ map negation (take l.x-index l.xs)

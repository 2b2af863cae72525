use Rattle.std.proofs.Common.{◌≡◌, ◌++◌}
use Rattle.bit_blast.specs.Inputs.{bits_of}
use Rattle.bit_blast.proofs.inputs.push_bits.Given as goal

abbrev pub invariant-loop-k : goal.invariant-loop-k
invariant-loop-k l = l.bits.items ≡ l.fn.bits.items ++ bits_of l.number l.k

use Rattle.std.proofs.Common.{◌%◌, ◌^◌}
use Rattle.bit_gates.specs.Made.{IsWordMade}
use Rattle.bit_gates.proofs.inputs.constant_word.Given as goal

abbrev pub invariant-loop-k : goal.invariant-loop-k
invariant-loop-k l = IsWordMade l.net l.net l.literals.items l.k (λ v. l.fn.value % 2 ^ l.k)

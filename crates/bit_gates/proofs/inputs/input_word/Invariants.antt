use Rattle.bit_gates.specs.Made.{IsInputWord}
use Rattle.bit_gates.proofs.inputs.input_word.Given as goal

abbrev pub invariant-loop-k : goal.invariant-loop-k
invariant-loop-k l = IsInputWord l.net l.literals.items l.first l.k

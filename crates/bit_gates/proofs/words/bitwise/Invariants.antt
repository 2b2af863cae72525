use Rattle.std.proofs.Common.{take}
use Rattle.bit_gates.specs.BitOps.{word_result}
use Rattle.bit_gates.specs.Made.{IsWordMade, number}
use Rattle.bit_gates.proofs.words.bitwise.Given as goal

abbrev pub invariant-loop-i : goal.invariant-loop-i
invariant-loop-i l = IsWordMade l.fn.net l.net l.literals.items l.i (λ v. word_result l.op (number v (take l.i l.xs)) (number v (take l.i l.ys)))

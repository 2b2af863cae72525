use Rattle.std.proofs.Common.{take, cond}
use Rattle.bit_gates.specs.Made.{IsWordMade, number}
use Rattle.bit_gates.proofs.words.choose_words.Given as goal

abbrev pub invariant-loop-i : goal.invariant-loop-i
invariant-loop-i l = IsWordMade l.fn.net l.net l.literals.items l.i (λ v. cond (v l.test) (number v (take l.i l.xs)) (number v (take l.i l.ys)))

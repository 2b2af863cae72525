use Rattle.std.proofs.Common.{take, eqb}
use Rattle.bit_gates.specs.Made.{IsMade, number}
use Rattle.bit_gates.proofs.words.equal.Given as goal

abbrev pub invariant-loop-i : goal.invariant-loop-i
invariant-loop-i l = IsMade l.fn.net l.net l.same (λ v. eqb (number v (take l.i l.xs)) (number v (take l.i l.ys)))

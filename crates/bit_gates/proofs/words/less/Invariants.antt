use Rattle.std.proofs.Common.{take, ltb}
use Rattle.bit_gates.specs.Made.{IsMade, number}
use Rattle.bit_gates.proofs.words.less.Given as goal

abbrev pub invariant-loop-i : goal.invariant-loop-i
invariant-loop-i l = IsMade l.fn.net l.net l.below (λ v. ltb (number v (take l.i l.xs)) (number v (take l.i l.ys)))

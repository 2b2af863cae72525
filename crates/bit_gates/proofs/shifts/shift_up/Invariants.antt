use Rattle.std.proofs.Common.{take, length}
use Rattle.bit_gates.specs.Shifts.{shifted_up}
use Rattle.bit_gates.specs.Made.{IsWordMade, number}
use Rattle.bit_gates.proofs.shifts.shift_up.Given as goal

abbrev pub invariant-loop-k : goal.invariant-loop-k
invariant-loop-k l = IsWordMade l.fn.net l.net l.word.items (length l.fn.xs) (λ v. shifted_up (length l.fn.xs) (number v l.fn.xs) (number v (take l.k l.by)))

use Rattle.std.proofs.Common.{take}
use Rattle.bit_gates.specs.Made.{IsSum}
use Rattle.bit_gates.proofs.sums.add.Given as goal

abbrev pub invariant-loop-i : goal.invariant-loop-i
invariant-loop-i l = IsSum l.fn.net l.net (take l.i l.xs) (take l.i l.ys) l.fn.carry l.literals.items l.next

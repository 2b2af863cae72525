use Rattle.std.proofs.Common.{◌≡◌, length}
use Rattle.mir_lex.specs.Bytes.{value_from}
use Rattle.mir_lex.proofs.digits.number_within.Given as goal

abbrev pub invariant-loop-left : goal.invariant-loop-left
invariant-loop-left l = value_from l.base l.value l.left ≡ value_from l.base 0 l.digits

abbrev pub decreases-loop-left : goal.decreases-loop-left
decreases-loop-left l = length l.left

use Rattle.std.proofs.Common.{◌≡◌, ◌++◌, length, reverse}
use Rattle.mir_grammar.specs.Values.{values_of}
use Rattle.value_pieces.proofs.parts.values_of.Given as goal

abbrev pub invariant-loop-part : goal.invariant-loop-part
invariant-loop-part g l = values_of l.left ++ reverse l.values.items ≡ values_of l.fn.parts

abbrev pub decreases-loop-part : goal.decreases-loop-part
decreases-loop-part g l = length l.left

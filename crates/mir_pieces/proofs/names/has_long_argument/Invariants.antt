use Rattle.std.proofs.Common.{◌≡◌, length}
use Rattle.mir_grammar.specs.Names.{argument_is_long, some_is}
use Rattle.mir_pieces.proofs.names.has_long_argument.Given as goal

abbrev pub invariant-loop-left : goal.invariant-loop-left
invariant-loop-left l = some_is argument_is_long l.left ≡ some_is argument_is_long l.arguments

abbrev pub decreases-loop-left : goal.decreases-loop-left
decreases-loop-left l = length l.left

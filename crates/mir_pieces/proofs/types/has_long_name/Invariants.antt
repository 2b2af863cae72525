use Rattle.std.proofs.Common.{◌≡◌, length}
use Rattle.mir_grammar.specs.Names.{named_is_long, some_is}
use Rattle.mir_pieces.proofs.types.has_long_name.Given as goal

abbrev pub invariant-loop-left : goal.invariant-loop-left
invariant-loop-left l = some_is named_is_long l.left ≡ some_is named_is_long l.names

abbrev pub decreases-loop-left : goal.decreases-loop-left
decreases-loop-left l = length l.left

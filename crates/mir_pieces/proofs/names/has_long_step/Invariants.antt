use Rattle.std.proofs.Common.{◌≡◌, length}
use Rattle.mir_grammar.specs.Names.{step_is_long, some_is}
use Rattle.mir_pieces.proofs.names.has_long_step.Given as goal

abbrev pub invariant-loop-left : goal.invariant-loop-left
invariant-loop-left l = some_is step_is_long l.left ≡ some_is step_is_long l.steps

abbrev pub decreases-loop-left : goal.decreases-loop-left
decreases-loop-left l = length l.left

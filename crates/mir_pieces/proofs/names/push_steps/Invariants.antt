use Rattle.std.proofs.Common.{◌≡◌, ◌++◌, length}
use Rattle.mir_grammar.specs.Names.{steps_text}
use Rattle.mir_pieces.proofs.names.push_steps.Given as goal

abbrev pub invariant-loop-left : goal.invariant-loop-left
invariant-loop-left l = l.out.items ++ steps_text l.left ≡ l.fn.out.items ++ steps_text l.steps

abbrev pub decreases-loop-left : goal.decreases-loop-left
decreases-loop-left l = length l.left

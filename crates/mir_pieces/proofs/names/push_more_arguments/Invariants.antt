use Rattle.std.proofs.Common.{◌≡◌, ◌++◌, length}
use Rattle.mir_grammar.specs.Names.{argument_text, comma_text, texts_of}
use Rattle.mir_pieces.proofs.names.push_more_arguments.Given as goal

abbrev pub invariant-loop-left : goal.invariant-loop-left
invariant-loop-left l = l.out.items ++ comma_text (texts_of argument_text l.left) ≡ l.fn.out.items ++ comma_text (texts_of argument_text l.arguments)

abbrev pub decreases-loop-left : goal.decreases-loop-left
decreases-loop-left l = length l.left

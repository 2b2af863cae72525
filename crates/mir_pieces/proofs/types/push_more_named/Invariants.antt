use Rattle.std.proofs.Common.{◌≡◌, ◌++◌, length}
use Rattle.mir_grammar.specs.Names.{named_text, comma_text, texts_of}
use Rattle.mir_pieces.proofs.types.push_more_named.Given as goal

abbrev pub invariant-loop-left : goal.invariant-loop-left
invariant-loop-left l = l.out.items ++ comma_text (texts_of named_text l.left) ≡ l.fn.out.items ++ comma_text (texts_of named_text l.names)

abbrev pub decreases-loop-left : goal.decreases-loop-left
decreases-loop-left l = length l.left

use Rattle.std.proofs.Common.{◌-◌, ◌+◌, ◌*◌, ◌∷◌, []}
use Rattle.grammar_words.specs.Classes.{inside}
use Rattle.mir_grammar.specs.Lexemes.{class_of}
use Rattle.grammar_words.specs.Classes.{tok}
use Rattle.block_reader.specs.Scopes.{no_value, passed_over}
use Rattle.block_reader.proofs.Gathering.{Gathered}
use Rattle.block_reader.proofs.items.passed_over.Given as goal

abbrev pub invariant-loop-left : goal.invariant-loop-left
invariant-loop-left l = Gathered no_value (inside class_of l.fn.set) (tok class_of l.fn.set) l.fn.turns l.fn.tokens l.done tt l.left

abbrev pub decreases-loop-left : goal.decreases-loop-left
decreases-loop-left l = l.fn.turns - l.done

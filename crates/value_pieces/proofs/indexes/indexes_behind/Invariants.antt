use Rattle.std.proofs.Common.{◌-◌, ◌∷◌, []}
use Rattle.grammar_words.specs.Reading.{turned, many}
use Rattle.grammar_words.specs.Classes.{inside}
use Rattle.mir_grammar.specs.Lexemes.{class_of}
use Rattle.mir_grammar.specs.Places.{index_at, with_steps}
use Rattle.value_pieces.specs.Onward.{Onward}
use Rattle.value_pieces.proofs.indexes.indexes_behind.Given as goal

abbrev pub invariant-loop-left : goal.invariant-loop-left
invariant-loop-left l = Onward (inside class_of (3 ∷ [])) index_at l.turns (turned (with_steps l.fn.placed) (many (inside class_of (3 ∷ [])) index_at l.turns l.tokens)) l.done (with_steps l.placed) l.left

abbrev pub decreases-loop-left : goal.decreases-loop-left
decreases-loop-left l = l.turns - l.done

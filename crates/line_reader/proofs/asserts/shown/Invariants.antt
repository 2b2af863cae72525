use Rattle.std.proofs.Common.{◌-◌, ◌∷◌, []}
use Rattle.grammar_words.specs.Classes.{inside, past}
use Rattle.grammar_words.specs.Coded.{SoFar}
use Rattle.mir_grammar.specs.Lexemes.{class_of}
use Rattle.mir_grammar.specs.Values.{operand_at}
use Rattle.mir_pieces.specs.Views.{read_view}
use Rattle.value_reader.specs.Levels.{places, types}
use Rattle.line_reader.proofs.asserts.shown.Given as goal

abbrev pub invariant-loop-alloc : goal.invariant-loop-alloc
invariant-loop-alloc l = SoFar (inside class_of (9 ∷ [])) (past class_of (9 ∷ []) (operand_at l.fn.turns (types l.fn.turns l.fn.depth) (places l.fn.turns l.fn.depth))) l.fn.turns l.fn.tokens l.done l.found.items l.left

abbrev pub decreases-loop-alloc : goal.decreases-loop-alloc
decreases-loop-alloc l = l.fn.turns - l.done

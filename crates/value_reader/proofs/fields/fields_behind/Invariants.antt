use Rattle.std.proofs.Common.{◌-◌, ◌∷◌, [], ◌++◌}
use Rattle.grammar_words.specs.Reading.{many}
use Rattle.grammar_words.specs.Classes.{inside, past}
use Rattle.grammar_words.specs.Coded.{behind}
use Rattle.mir_grammar.specs.Lexemes.{class_of}
use Rattle.mir_grammar.specs.Values.{field_at}
use Rattle.value_pieces.specs.Onward.{Onward}
use Rattle.value_reader.specs.Levels.{places, types}
use Rattle.value_reader.proofs.fields.fields_behind.Given as goal

abbrev pub invariant-loop-alloc : goal.invariant-loop-alloc
invariant-loop-alloc l = Onward (inside class_of (9 ∷ [])) (past class_of (9 ∷ []) (field_at l.turns (types l.turns l.depth) (places l.turns l.depth))) l.turns
    (behind (l.fn.first ∷ []) (many (inside class_of (9 ∷ [])) (past class_of (9 ∷ []) (field_at l.turns (types l.turns l.depth) (places l.turns l.depth))) l.turns l.tokens)) l.done (λ more. l.fields.items ++ more) l.left

abbrev pub decreases-loop-alloc : goal.decreases-loop-alloc
decreases-loop-alloc l = l.turns - l.done

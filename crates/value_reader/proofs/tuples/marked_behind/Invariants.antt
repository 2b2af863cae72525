use Rattle.std.proofs.Common.{◌-◌, ◌∷◌, []}
use Rattle.grammar_words.specs.Reading.{turned}
use Rattle.grammar_words.specs.Classes.{lead, trail}
use Rattle.mir_grammar.specs.Lexemes.{class_of}
use Rattle.mir_grammar.specs.Values.{marks, marked_at}
use Rattle.value_reader.specs.Levels.{places, types}
use Rattle.value_reader.specs.Trailing.{Trailing, led}
use Rattle.value_reader.proofs.tuples.marked_behind.Given as goal

abbrev pub invariant-loop-alloc : goal.invariant-loop-alloc
invariant-loop-alloc l = Trailing class_of marks (9 ∷ []) (marked_at l.turns (types l.turns l.depth) (places l.turns l.depth)) l.turns
    (turned (λ more. lead (l.fn.first, more)) (trail class_of marks (9 ∷ []) (marked_at l.turns (types l.turns l.depth) (places l.turns l.depth)) l.turns l.tokens)) l.done (led l.operands.items) l.left

abbrev pub decreases-loop-alloc : goal.decreases-loop-alloc
decreases-loop-alloc l = l.turns - l.done

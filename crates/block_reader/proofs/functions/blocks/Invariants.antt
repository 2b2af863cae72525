use Rattle.std.proofs.Common.{◌-◌, ◌∷◌, []}
use Rattle.grammar_words.specs.Classes.{inside}
use Rattle.grammar_words.specs.Coded.{SoFar}
use Rattle.mir_grammar.specs.Lexemes.{class_of}
use Rattle.mir_grammar.specs.Functions.{block_at}
use Rattle.mir_pieces.specs.Views.{read_view}
use Rattle.value_reader.specs.Levels.{places, types}
use Rattle.block_reader.proofs.functions.blocks.Given as goal

abbrev pub invariant-loop-alloc : goal.invariant-loop-alloc
invariant-loop-alloc l = SoFar (inside class_of (32 ∷ [])) (block_at l.fn.turns (types l.fn.turns l.fn.depth) (places l.fn.turns l.fn.depth)) l.fn.turns l.fn.tokens l.done l.found.items l.left

abbrev pub decreases-loop-alloc : goal.decreases-loop-alloc
decreases-loop-alloc l = l.fn.turns - l.done

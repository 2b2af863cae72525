use Rattle.std.proofs.Common.{◌-◌, ◌+◌, ◌*◌, ◌∷◌, []}
use Rattle.grammar_words.specs.Classes.{inside}
use Rattle.mir_grammar.specs.Lexemes.{class_of}
use Rattle.grammar_words.specs.Classes.{past}
use Rattle.mir_pieces.specs.Views.{read_view}
use Rattle.block_reader.specs.Signatures.{behind_first, parameter_at}
use Rattle.block_reader.proofs.Gathering.{Gathered}
use Rattle.block_reader.proofs.functions.more_parameters.Given as goal

abbrev pub invariant-loop-alloc : goal.invariant-loop-alloc
invariant-loop-alloc l = Gathered (behind_first l.fn.first) (inside class_of (9 ∷ [])) (past class_of (9 ∷ []) (parameter_at l.fn.turns l.fn.depth)) l.fn.turns l.fn.tokens l.done l.found l.left

abbrev pub decreases-loop-alloc : goal.decreases-loop-alloc
decreases-loop-alloc l = l.fn.turns - l.done

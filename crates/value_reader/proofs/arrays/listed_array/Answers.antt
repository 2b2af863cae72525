use Rattle.std.proofs.Common.{◌∷◌, [], sym, ◌∙◌, ap}
use Rattle.grammar_words.specs.Classes.{ended}
use Rattle.grammar_words.specs.Coded.{counted}
use Rattle.mir_grammar.specs.Lexemes.{class_of}
use Rattle.mir_pieces.specs.Views.{read_view}
use Rattle.value_pieces.specs.Arrays.{array_of}
use Rattle.value_pieces.proofs.Going.{turned_ok, turned_stop}
use Rattle.value_reader.specs.Levels.{places, types}
use Rattle.value_reader.specs.Lists.{operands_after}
use Rattle.value_reader.proofs.Filled.{array_closed}
use Rattle.value_reader.proofs.arrays.listed_array.Goals as goal

pub returns-in_ok-array-in-Ok : goal.returns-in_ok-array-in-Ok
returns-in_ok-array-in-Ok c = turned_ok array_of (ended class_of (operands_after c.args.turns (types c.args.turns c.args.depth) (places c.args.turns c.args.depth) c.args.first) (4 ∷ []) c.args.tokens.now) _ _ _ (ap read_view (sym c.in-Ok.is) ∙ c.in_ok-operands.ensures) c.in_ok-array-in-Ok.ensures
    ∙ ap counted (sym (array_closed c.args.turns (types c.args.turns c.args.depth) (places c.args.turns c.args.depth) c.args.first c.args.tokens.now))

pub returns-in-Err : goal.returns-in-Err
returns-in-Err c = turned_stop array_of (ended class_of (operands_after c.args.turns (types c.args.turns c.args.depth) (places c.args.turns c.args.depth) c.args.first) (4 ∷ []) c.args.tokens.now) _ (ap read_view (sym c.in-Err.is) ∙ c.in_ok-operands.ensures)
    ∙ ap counted (sym (array_closed c.args.turns (types c.args.turns c.args.depth) (places c.args.turns c.args.depth) c.args.first c.args.tokens.now))

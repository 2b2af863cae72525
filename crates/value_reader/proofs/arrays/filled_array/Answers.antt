use Rattle.std.proofs.Common.{sym, ◌∙◌, ap}
use Rattle.mir_grammar.specs.Values.{to_array_of, operand_at, array_rest_at}
use Rattle.mir_pieces.specs.Views.{read_view}
use Rattle.value_pieces.proofs.Going.{joined_by}
use Rattle.value_reader.specs.Levels.{places, types}
use Rattle.value_reader.proofs.Following.{joined_stop}
use Rattle.value_reader.proofs.arrays.filled_array.Goals as goal

pub returns-in_ok-read-in-Ok : goal.returns-in_ok-read-in-Ok
returns-in_ok-read-in-Ok c = joined_by to_array_of (operand_at c.args.turns (types c.args.turns c.args.depth) (places c.args.turns c.args.depth)) (array_rest_at c.args.turns (types c.args.turns c.args.depth) (places c.args.turns c.args.depth)) c.args.tokens.now c.in-Ok.rest.now _ _ (ap read_view (sym c.in-Ok.is) ∙ c.in_ok-first.ensures) c.in_ok-read-in-Ok.ensures

pub returns-in-Err : goal.returns-in-Err
returns-in-Err c = joined_stop to_array_of (operand_at c.args.turns (types c.args.turns c.args.depth) (places c.args.turns c.args.depth)) (array_rest_at c.args.turns (types c.args.turns c.args.depth) (places c.args.turns c.args.depth)) c.args.tokens.now _ (ap read_view (sym c.in-Err.is) ∙ c.in_ok-first.ensures)

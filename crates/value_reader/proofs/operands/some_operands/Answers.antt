use Rattle.std.proofs.Common.{sym, ◌∙◌, ap}
use Rattle.mir_grammar.specs.Values.{operand_at}
use Rattle.grammar_words.specs.Reading.{cons}
use Rattle.value_reader.specs.Lists.{more_operands, operands_after}
use Rattle.mir_pieces.specs.Views.{read_view}
use Rattle.value_pieces.proofs.Going.{joined_by}
use Rattle.value_reader.specs.Levels.{places, types}
use Rattle.value_reader.proofs.Following.{joined_stop}
use Rattle.value_reader.proofs.operands.some_operands.Goals as goal

pub returns-in_ok-read-in-Ok : goal.returns-in_ok-read-in-Ok
unfolding operands_after
returns-in_ok-read-in-Ok c = joined_by cons (operand_at c.args.turns (types c.args.turns c.args.depth) (places c.args.turns c.args.depth)) (more_operands c.args.turns (types c.args.turns c.args.depth) (places c.args.turns c.args.depth)) c.args.tokens.now c.in-Ok.rest.now _ _ (ap read_view (sym c.in-Ok.is) ∙ c.in_ok-first.ensures) c.in_ok-read-in-Ok.ensures

pub returns-in-Err : goal.returns-in-Err
returns-in-Err c = joined_stop cons (operand_at c.args.turns (types c.args.turns c.args.depth) (places c.args.turns c.args.depth)) (more_operands c.args.turns (types c.args.turns c.args.depth) (places c.args.turns c.args.depth)) c.args.tokens.now _ (ap read_view (sym c.in-Err.is) ∙ c.in_ok-first.ensures)

use Rattle.std.proofs.Common.{◌∷◌, [], sym, ◌∙◌, ap}
use Rattle.grammar_words.specs.Classes.{tok, past}
use Rattle.mir_grammar.specs.Lexemes.{class_of}
use Rattle.mir_grammar.specs.Types.{any_word}
use Rattle.mir_grammar.specs.Values.{to_field, operand_at}
use Rattle.mir_pieces.specs.Views.{read_view}
use Rattle.value_reader.specs.Levels.{places, types}
use Rattle.value_reader.proofs.Following.{past_by, joined_ok, joined_late}
use Rattle.value_reader.proofs.fields.field.Goals as goal

pub returns-in_ok-field-in-Ok-2 : goal.returns-in_ok-field-in-Ok-2
returns-in_ok-field-in-Ok-2 c = joined_ok to_field (tok class_of any_word) (past class_of (11 ∷ []) (operand_at c.args.turns (types c.args.turns c.args.depth) (places c.args.turns c.args.depth))) c.args.tokens.now c.in-Ok.rest.now _ _ _ _ c.in-Ok.ensures
    (past_by class_of (11 ∷ []) (operand_at c.args.turns (types c.args.turns c.args.depth) (places c.args.turns c.args.depth)) c.in-Ok.rest.now c.in-Ok-token.rest.now _ _ c.in-Ok-token.ensures (ap read_view (sym c.in-Ok-2.is) ∙ c.in_ok-operand-in-Ok-token.ensures)) c.in_ok-field-in-Ok-2.ensures

pub returns-in-Err-2 : goal.returns-in-Err-2
returns-in-Err-2 c = joined_late to_field (tok class_of any_word) (past class_of (11 ∷ []) (operand_at c.args.turns (types c.args.turns c.args.depth) (places c.args.turns c.args.depth))) c.args.tokens.now c.in-Ok.rest.now _ _ c.in-Ok.ensures
    (past_by class_of (11 ∷ []) (operand_at c.args.turns (types c.args.turns c.args.depth) (places c.args.turns c.args.depth)) c.in-Ok.rest.now c.in-Ok-token.rest.now _ _ c.in-Ok-token.ensures (ap read_view (sym c.in-Err-2.is) ∙ c.in_ok-operand-in-Ok-token.ensures))

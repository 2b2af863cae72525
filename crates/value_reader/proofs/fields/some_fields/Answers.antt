use Rattle.std.proofs.Common.{◌∷◌, [], sym, ◌∙◌, ap}
use Rattle.mir_grammar.specs.Lexemes.{class_of}
use Rattle.mir_grammar.specs.Values.{field_at}
use Rattle.grammar_words.specs.Reading.{cons, many}
use Rattle.grammar_words.specs.Classes.{inside, past}
use Rattle.mir_pieces.specs.Views.{read_view}
use Rattle.value_pieces.proofs.Going.{joined_by}
use Rattle.value_reader.specs.Levels.{places, types}
use Rattle.value_reader.proofs.Following.{joined_stop}
use Rattle.value_reader.proofs.fields.some_fields.Goals as goal

pub returns-in_ok-read-in-Ok : goal.returns-in_ok-read-in-Ok
returns-in_ok-read-in-Ok c = joined_by cons (field_at c.args.turns (types c.args.turns c.args.depth) (places c.args.turns c.args.depth)) (many (inside class_of (9 ∷ [])) (past class_of (9 ∷ []) (field_at c.args.turns (types c.args.turns c.args.depth) (places c.args.turns c.args.depth))) c.args.turns) c.args.tokens.now c.in-Ok.rest.now _ _ (ap read_view (sym c.in-Ok.is) ∙ c.in_ok-first.ensures) c.in_ok-read-in-Ok.ensures

pub returns-in-Err : goal.returns-in-Err
returns-in-Err c = joined_stop cons (field_at c.args.turns (types c.args.turns c.args.depth) (places c.args.turns c.args.depth)) (many (inside class_of (9 ∷ [])) (past class_of (9 ∷ []) (field_at c.args.turns (types c.args.turns c.args.depth) (places c.args.turns c.args.depth))) c.args.turns) c.args.tokens.now _ (ap read_view (sym c.in-Err.is) ∙ c.in_ok-first.ensures)

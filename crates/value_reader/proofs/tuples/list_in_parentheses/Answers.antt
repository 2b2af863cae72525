use Rattle.std.proofs.Common.{◌∷◌, [], sym, ◌∙◌, ap}
use Rattle.grammar_words.specs.Classes.{ended, trailed}
use Rattle.mir_grammar.specs.Values.{marks, marked_at}
use Rattle.mir_grammar.specs.Lexemes.{class_of}
use Rattle.mir_pieces.specs.Views.{read_view}
use Rattle.value_reader.specs.Levels.{places, types}
use Rattle.value_reader.proofs.Following.{past_by, ended_ok, ended_late, ended_stop}
use Rattle.value_reader.proofs.tuples.list_in_parentheses.Goals as goal

pub returns-in-Ok-token : goal.returns-in-Ok-token
returns-in-Ok-token c = past_by class_of (1 ∷ []) (ended class_of (trailed class_of marks (9 ∷ []) (marked_at c.args.turns (types c.args.turns c.args.depth) (places c.args.turns c.args.depth)) c.args.turns) (2 ∷ [])) c.args.tokens.now c.in-Ok.rest.now _ _ c.in-Ok.ensures
    (ended_ok class_of (trailed class_of marks (9 ∷ []) (marked_at c.args.turns (types c.args.turns c.args.depth) (places c.args.turns c.args.depth)) c.args.turns) (2 ∷ []) c.in-Ok.rest.now c.in-Ok-2.rest.now _ _ _ (ap read_view (sym c.in-Ok-2.is) ∙ c.in_ok-list-in-Ok.ensures) c.in-Ok-token.ensures)

pub returns-in-Err-token : goal.returns-in-Err-token
returns-in-Err-token c = past_by class_of (1 ∷ []) (ended class_of (trailed class_of marks (9 ∷ []) (marked_at c.args.turns (types c.args.turns c.args.depth) (places c.args.turns c.args.depth)) c.args.turns) (2 ∷ [])) c.args.tokens.now c.in-Ok.rest.now _ _ c.in-Ok.ensures
    (ended_late class_of (trailed class_of marks (9 ∷ []) (marked_at c.args.turns (types c.args.turns c.args.depth) (places c.args.turns c.args.depth)) c.args.turns) (2 ∷ []) c.in-Ok.rest.now c.in-Ok-2.rest.now _ _ (ap read_view (sym c.in-Ok-2.is) ∙ c.in_ok-list-in-Ok.ensures) c.in-Err-token.ensures)

pub returns-in-Err-2 : goal.returns-in-Err-2
returns-in-Err-2 c = past_by class_of (1 ∷ []) (ended class_of (trailed class_of marks (9 ∷ []) (marked_at c.args.turns (types c.args.turns c.args.depth) (places c.args.turns c.args.depth)) c.args.turns) (2 ∷ [])) c.args.tokens.now c.in-Ok.rest.now _ _ c.in-Ok.ensures
    (ended_stop class_of (trailed class_of marks (9 ∷ []) (marked_at c.args.turns (types c.args.turns c.args.depth) (places c.args.turns c.args.depth)) c.args.turns) (2 ∷ []) c.in-Ok.rest.now _ (ap read_view (sym c.in-Err-2.is) ∙ c.in_ok-list-in-Ok.ensures))

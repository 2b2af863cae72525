use Rattle.std.proofs.Common.{◌∷◌, [], true, false, sym, ◌∙◌, ap}
use Rattle.grammar_words.specs.Reading.{made}
use Rattle.grammar_words.specs.Classes.{tok, past, perhaps}
use Rattle.mir_grammar.specs.Lexemes.{class_of}
use Rattle.mir_grammar.specs.Types.{any_word}
use Rattle.mir_grammar.specs.Values.{to_coercion}
use Rattle.mir_pieces.specs.Views.{read_view}
use Rattle.value_pieces.proofs.Going.{joined_by, turned_ok, turned_stop}
use Rattle.value_pieces.proofs.casts.coercion_inside.Goals as goal

pub returns-in-Ok-2 : goal.returns-in-Ok-2
returns-in-Ok-2 c = joined_by to_coercion (tok class_of (155 ∷ 156 ∷ [])) (perhaps class_of (9 ∷ []) false (made (λ t. true) (past class_of (9 ∷ []) (tok class_of any_word)))) c.args.tokens.now c.in-Ok.rest.now c.in-Ok.word.now _ c.in-Ok.ensures
    (turned_ok _ _ _ _ _ (ap read_view (sym c.in-Ok-2.is) ∙ c.in_ok-origin-in-Ok.ensures) c.to_coercion.ensures)

pub returns-in-Err-2 : goal.returns-in-Err-2
returns-in-Err-2 c = joined_by to_coercion (tok class_of (155 ∷ 156 ∷ [])) (perhaps class_of (9 ∷ []) false (made (λ t. true) (past class_of (9 ∷ []) (tok class_of any_word)))) c.args.tokens.now c.in-Ok.rest.now c.in-Ok.word.now _ c.in-Ok.ensures
    (turned_stop _ _ _ (ap read_view (sym c.in-Err-2.is) ∙ c.in_ok-origin-in-Ok.ensures))

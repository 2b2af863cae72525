use Rattle.std.proofs.Common.{◌∷◌, [], sym, ◌∙◌, ap}
use Rattle.grammar_words.specs.Reading.{many}
use Rattle.grammar_words.specs.Classes.{inside, ended}
use Rattle.mir_grammar.specs.Lexemes.{class_of}
use Rattle.mir_grammar.specs.Places.{to_place, to_stepped, in_parentheses_at, base_at, selector_at, index_at, place_body}
use Rattle.mir_pieces.specs.Views.{read_view}
use Rattle.value_pieces.proofs.Going.{joined_by}
use Rattle.value_reader.specs.Levels.{any_type, level_place}
use Rattle.value_reader.proofs.Depths.{level_none, level_more, level_not}
use Rattle.value_reader.proofs.Following.{past_by, ended_ok, ended_late, ended_stop, joined_ok, joined_late, joined_stop}
use Rattle.value_reader.proofs.places.+places.Goals as goal

pub place_in-returns-then-level-eq0 : goal.place_in-returns-then-level-eq0
place_in-returns-then-level-eq0 t c = level_none _ _ _ _ _ (sym c.starts.ensures ∙ c.if-starts.true) c.if-level-eq0.true c.stop_before.ensures

pub place_in-returns-in_ok-read : goal.place_in-returns-in_ok-read
place_in-returns-in_ok-read t c = level_more _ _ _ _ _ (sym c.starts.ensures ∙ c.if-starts.true) c.if-level-eq0.false c.in_ok-read.ensures

pub place_in-returns-else-starts : goal.place_in-returns-else-starts
place_in-returns-else-starts t c = level_not _ _ _ _ _ (sym c.starts.ensures ∙ c.if-starts.false) c.stop_before-else-starts.ensures

pub enclosed_place-returns-in-Ok-token : goal.enclosed_place-returns-in-Ok-token
enclosed_place-returns-in-Ok-token t c = let q = in_parentheses_at (any_type c.args.turns c.args.depth) (level_place c.args.turns c.args.depth c.args.level) in
    past_by class_of (1 ∷ []) (ended class_of q (2 ∷ [])) c.args.tokens.now c.in-Ok.rest.now _ _ c.in-Ok.ensures (ended_ok class_of q (2 ∷ []) c.in-Ok.rest.now c.in-Ok-2.rest.now _ _ _ (ap read_view (sym c.in-Ok-2.is) ∙ c.in_ok-placed-in-Ok.ensures) c.in-Ok-token.ensures)

pub enclosed_place-returns-in-Err-token : goal.enclosed_place-returns-in-Err-token
enclosed_place-returns-in-Err-token t c = let q = in_parentheses_at (any_type c.args.turns c.args.depth) (level_place c.args.turns c.args.depth c.args.level) in
    past_by class_of (1 ∷ []) (ended class_of q (2 ∷ [])) c.args.tokens.now c.in-Ok.rest.now _ _ c.in-Ok.ensures (ended_late class_of q (2 ∷ []) c.in-Ok.rest.now c.in-Ok-2.rest.now _ _ (ap read_view (sym c.in-Ok-2.is) ∙ c.in_ok-placed-in-Ok.ensures) c.in-Err-token.ensures)

pub enclosed_place-returns-in-Err-2 : goal.enclosed_place-returns-in-Err-2
enclosed_place-returns-in-Err-2 t c = let q = in_parentheses_at (any_type c.args.turns c.args.depth) (level_place c.args.turns c.args.depth c.args.level) in
    past_by class_of (1 ∷ []) (ended class_of q (2 ∷ [])) c.args.tokens.now c.in-Ok.rest.now _ _ c.in-Ok.ensures (ended_stop class_of q (2 ∷ []) c.in-Ok.rest.now _ (ap read_view (sym c.in-Err-2.is) ∙ c.in_ok-placed-in-Ok.ensures))

pub place_with_indexes-returns-in_ok-read-in-Ok : goal.place_with_indexes-returns-in_ok-read-in-Ok
unfolding place_body to_place
place_with_indexes-returns-in_ok-read-in-Ok t c = joined_by to_place (base_at (any_type c.args.turns c.args.depth) (level_place c.args.turns c.args.depth c.args.level)) (many (inside class_of (3 ∷ [])) index_at c.args.turns) c.args.tokens.now c.in-Ok.rest.now _ _
    (ap read_view (sym c.in-Ok.is) ∙ c.in_ok-placed.ensures) c.in_ok-read-in-Ok.ensures

pub place_with_indexes-returns-in-Err : goal.place_with_indexes-returns-in-Err
unfolding place_body
place_with_indexes-returns-in-Err t c = joined_stop to_place (base_at (any_type c.args.turns c.args.depth) (level_place c.args.turns c.args.depth c.args.level)) (many (inside class_of (3 ∷ [])) index_at c.args.turns) c.args.tokens.now _
    (ap read_view (sym c.in-Err.is) ∙ c.in_ok-placed.ensures)

pub stepped_place-returns-in_ok-longer-in-Ok-2 : goal.stepped_place-returns-in_ok-longer-in-Ok-2
unfolding to_stepped
stepped_place-returns-in_ok-longer-in-Ok-2 t c = joined_ok to_stepped (level_place c.args.turns c.args.depth c.args.level) (selector_at (any_type c.args.turns c.args.depth)) c.args.tokens.now c.in-Ok.rest.now _ _ _ _
    (ap read_view (sym c.in-Ok.is) ∙ c.in_ok-placed.ensures) (ap read_view (sym c.in-Ok-2.is) ∙ c.in_ok-stepped-in-Ok.ensures) c.in_ok-longer-in-Ok-2.ensures

pub stepped_place-returns-in-Err-2 : goal.stepped_place-returns-in-Err-2
stepped_place-returns-in-Err-2 t c = joined_late to_stepped (level_place c.args.turns c.args.depth c.args.level) (selector_at (any_type c.args.turns c.args.depth)) c.args.tokens.now c.in-Ok.rest.now _ _
    (ap read_view (sym c.in-Ok.is) ∙ c.in_ok-placed.ensures) (ap read_view (sym c.in-Err-2.is) ∙ c.in_ok-stepped-in-Ok.ensures)

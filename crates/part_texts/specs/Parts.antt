-- The type, the place or the path that a whole text writes, within the limits. A text that is longer than a text of
-- functions may be writes none.
use Rattle.std.specs.Prelude.{ℕ, nat_le, if◌then◌else◌, List, length, Option, Some, None, Result, Ok, Err}
use Rattle.mir_ir.specs.declared.types.Ty.{Ty}
use Rattle.mir_ir.specs.declared.places.PlaceExpr.{PlaceExpr}
use Rattle.mir_lex.specs.declared.token.Token.{Token}
use Rattle.mir_lex.specs.declared.front.Fault.{Fault}
use Rattle.mir_lex.specs.Lexing.{lexed}
use Rattle.grammar_words.specs.Reading.{Outcome, Got, Fault as Missed}
use Rattle.mir_grammar.specs.Lexemes.{Lexeme}
use Rattle.mir_grammar.specs.Functions.{type_answer, path_answer, place_answer}
use Rattle.mir_pieces.specs.Seen.{lexemes}
use Rattle.mir_text.specs.Parts.{short_type, short_path, near_place}

abbrev pub got : {A : Type 0} → Outcome Lexeme A → Option A
got (Got a rest) = Some a
got (Missed why rest) = None

-- what an answer over the tokens of the text gives
abbrev pub answered : {A : Type 0} → (List Lexeme → Outcome Lexeme A) → List ℕ → Result (List Token) Fault → Option A
answered answer text (Ok ts) = got (answer (lexemes text ts))
answered answer text (Err f) = None

abbrev pub bounded : {A : Type 0} → List ℕ → Option A → Option A
bounded text read = if nat_le (length text) 4194304 then read else None

unfoldable pub type_in_text : List ℕ → Option Ty
type_in_text text = bounded text (short_type (answered (type_answer 63) text (lexed text)))

unfoldable pub path_in_text : List ℕ → Option (List ℕ)
path_in_text text = bounded text (short_path (answered (path_answer 63) text (lexed text)))

unfoldable pub place_in_text : List ℕ → Option PlaceExpr
place_in_text text = bounded text (near_place (answered (place_answer 63) text (lexed text)))

-- What the code answers, step by step.
use Rattle.std.specs.Prelude.{ℕ, ◌-◌, Bool, true, false, List, length, drop, Option, Some, None, Result, Ok, Err}
use Rattle.vk_core.specs.declared.text_place.TextPlace.{TextPlace}
use Rattle.mir_lex.specs.declared.fault.LexFault.{LexFault}
use Rattle.mir_lex.specs.declared.fault.LexFault.TheVariants as lex
use Rattle.grammar_words.specs.declared.stop.Why.{Why}
use Rattle.grammar_words.specs.declared.stop.Why.TheVariants.{Wrong, Deep, Spent}
use Rattle.grammar_words.specs.declared.stop.Stop.{Stop}
use Rattle.grammar_words.specs.Coded.{at_end}
use Rattle.mir_grammar.specs.declared.trees.RawFunction.{RawFunction}
use Rattle.mir_grammar.specs.Lexemes.{Lexeme}
use Rattle.mir_text.specs.declared.fault.TextFault.{TextFault}
use Rattle.mir_text.specs.declared.fault.TextFault.TheVariants as answer
use Rattle.mir_text.specs.Answers.{HasTokens, IsWritten, IsAnswer, place_of, unsupported_in}

abbrev pub with_end : {A : Type 0} → A → Result (Unit {0}) Stop → Result A Stop
with_end a (Ok u) = Ok a
with_end a (Err s) = Err s

-- a value with nothing behind it, or where reading stops
abbrev pub ended : {K A : Type 0} → Result (A × List K) Stop → Result A Stop
ended (Ok r) = with_end r.0 (at_end r.1)
ended (Err s) = Err s

abbrev pub value_of : {A : Type 0} → Result A Stop → Option A
value_of (Ok a) = Some a
value_of (Err s) = None

-- a fault of tokens
abbrev pub from_lex : LexFault → TextFault
from_lex (lex.BadByte place) = answer.Lex (lex.BadByte place)
from_lex (lex.OpenText place) = answer.Lex (lex.OpenText place)
from_lex (lex.NumberTooWide place) = answer.Lex (lex.NumberTooWide place)
from_lex (lex.NameTooLong place) = answer.Lex (lex.NameTooLong place)
from_lex lex.Memory = answer.Memory

abbrev pub is_memory : LexFault → Bool
is_memory (lex.BadByte place) = false
is_memory (lex.OpenText place) = false
is_memory (lex.NumberTooWide place) = false
is_memory (lex.NameTooLong place) = false
is_memory lex.Memory = true

-- a wrong token, which may be a word that is known
abbrev pub wrong_at : TextPlace → Option (List ℕ) → TextFault
wrong_at place None = answer.Unexpected place
wrong_at place (Some form) = answer.Unsupported place form

-- a fault before these tokens
abbrev pub fault_before : List ℕ → Why → List Lexeme → TextFault
fault_before text Wrong rest = wrong_at (place_of text rest) (unsupported_in rest)
fault_before text Deep rest = answer.TooDeep (place_of text rest)
fault_before text Spent rest = answer.Unexpected (place_of text rest)

-- a fault where a reading of these tokens stops
abbrev pub fault_at : List ℕ → List Lexeme → Stop → TextFault
fault_at text ts s = fault_before text s.why (drop (length ts - s.left) ts)

abbrev pub answered : List ℕ → List Lexeme → Result (List RawFunction) Stop → Result (List RawFunction) TextFault
answered text ts (Ok fs) = Ok fs
answered text ts (Err s) = Err (fault_at text ts s)

-- the functions of a text as they are written, or the right answer
abbrev pub IsReading : List ℕ → Result (List RawFunction) TextFault → Type 0
IsReading text (Ok fs) = IsWritten text fs
IsReading text (Err f) = IsAnswer text (Err f)

-- the text has no tokens
abbrev pub HasNoTokens : List ℕ → Type 0
HasNoTokens text = (ts : List Lexeme) → HasTokens text ts → ⊥

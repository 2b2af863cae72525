-- Which answers to a text are right.
use Rattle.std.specs.Prelude.{◌≡◌, ⊤, ℕ, Bool, if◌then◌else◌, List, [], ◌∷◌, ◌++◌, length, codes, Option, Some, None, Result, Ok, Err}
use Rattle.std.specs.List.{list_any}
use Rattle.std.specs.Str.{bytes_eq}
use Rattle.vk_core.specs.declared.text_place.TextPlace.{TextPlace}
use Rattle.mir_ir.specs.declared.tree.Function.{Function}
use Rattle.mir_lex.specs.declared.token.Token.{Token}
use Rattle.mir_lex.specs.declared.fault.FaultKind.TheVariants as fault
use Rattle.mir_lex.specs.declared.fault.LexFault.{LexFault}
use Rattle.mir_lex.specs.declared.fault.LexFault.TheVariants as lex
use Rattle.mir_lex.specs.Tokens.{Lexes, FailsAt}
use Rattle.mir_lex.specs.Places.{text_place}
use Rattle.grammar_words.specs.Exact.{Begins, StopsAt, IsTooDeep}
use Rattle.mir_grammar.specs.declared.trees.RawFunction.{RawFunction}
use Rattle.mir_grammar.specs.Lexemes.{Lexeme}
use Rattle.mir_grammar.specs.Functions.{Text, HoledText}
use Rattle.mir_pieces.specs.Seen.{lexemes}
use Rattle.raw_functions.specs.declared.limits.Limit.{Limit}
use Rattle.raw_functions.specs.Doubles.{duplicate_of}
use Rattle.raw_functions.specs.Limits.{limit_of}
use Rattle.raw_functions.specs.Meant.{functions_of}
use Rattle.mir_text.specs.declared.fault.TextFault.{TextFault}
use Rattle.mir_text.specs.declared.fault.TextFault.TheVariants as answer

-- the tokens of a text, as the grammar sees them
pub record HasTokens (text : List ℕ) (ts : List Lexeme) : Type 0 where
  pub tokens : List Token
  pub lexed : Lexes text tokens
  pub seen : ts ≡ lexemes text tokens

-- A token is at fault: no token begins at this place, which is the earliest such place.
abbrev pub IsLexFault : List ℕ → LexFault → Type 0
IsLexFault text (lex.BadByte place) = FailsAt text fault.BadByte place
IsLexFault text (lex.OpenText place) = FailsAt text fault.OpenText place
IsLexFault text (lex.NumberTooWide place) = FailsAt text fault.NumberTooWide place
IsLexFault text (lex.NameTooLong place) = FailsAt text fault.NameTooLong place
IsLexFault text lex.Memory = ⊥

-- The grammar. Types, places and scopes are nested at most 64 deep, which is one more than the number here.

-- the tokens are these functions, as they are written
abbrev pub Reads : List Lexeme → List RawFunction → Type 0
Reads ts fs = Text 63 ts fs []

-- The tokens before rest begin a text. With the first of rest they begin none, or rest is the end and they are none.
-- No part of the text is nested too deep.
abbrev pub IsWrongAt : List Lexeme → List Lexeme → Type 0
IsWrongAt ts rest = (front : List Lexeme) × (ts ≡ front ++ rest) × Begins Text front × StopsAt Text front rest × ((x : List Lexeme) → IsTooDeep (HoledText 63) ts x → ⊥)

-- The tokens up to the first of rest begin a text, but none whose parts are nested within the limit; and the text is one
-- within the limit, but for a part of any depth that begins at this token.
abbrev pub IsTooDeepAt : List Lexeme → List Lexeme → Type 0
IsTooDeepAt ts [] = ⊥
IsTooDeepAt ts (t ∷ rest) = (front : List Lexeme) × (ts ≡ front ++ t ∷ rest) × Begins Text (front ++ t ∷ []) × ((more : List Lexeme) (fs : List RawFunction) → Reads (front ++ t ∷ more) fs → ⊥) × IsTooDeep (HoledText 63) ts (t ∷ rest)

-- where the first of these tokens starts, or the end of the text
abbrev pub place_of : List ℕ → List Lexeme → TextPlace
place_of text [] = text_place text (length text)
place_of text (t ∷ ts) = text_place text t.start

-- words of rustc's MIR that are known and not read
abbrev pub unsupported_words : List (List ℕ)
unsupported_words = codes "falseEdge" ∷ codes "falseUnwind" ∷ codes "yield" ∷ codes "coroutine_drop" ∷ codes "tailcall" ∷ codes "asm" ∷ codes "FakeRead" ∷ codes "AscribeUserType"
    ∷ codes "Retag" ∷ codes "Coverage" ∷ codes "Deinit" ∷ codes "copy_nonoverlapping" ∷ codes "assume" ∷ codes "const" ∷ codes "static" ∷ codes "promoted" ∷ []

abbrev pub is_unsupported : List ℕ → Bool
is_unsupported word = list_any (bytes_eq word) unsupported_words

-- the first of these tokens, where it is such a word
abbrev pub unsupported_in : List Lexeme → Option (List ℕ)
unsupported_in [] = None
unsupported_in (t ∷ ts) = if is_unsupported t.text then Some t.text else None

-- The answers.

-- the text has tokens, and they are these functions as they are written
pub record IsWritten (text : List ℕ) (fs : List RawFunction) : Type 0 where
  pub tokens : List Lexeme
  pub has : HasTokens text tokens
  pub reads : Reads tokens fs

-- the functions of a text: no name stands twice, and no limit is passed
pub record Means (text : List ℕ) (fs : List Function) : Type 0 where
  pub written : List RawFunction
  pub is : IsWritten text written
  pub single : duplicate_of written ≡ None
  pub within : limit_of written ≡ None
  pub meant : fs ≡ functions_of text written

-- a token is wrong, or the end, and is no word that is known
pub record IsUnexpected (text : List ℕ) (place : TextPlace) : Type 0 where
  pub tokens : List Lexeme
  pub rest : List Lexeme
  pub has : HasTokens text tokens
  pub wrong : IsWrongAt tokens rest
  pub other : unsupported_in rest ≡ None
  pub at : place ≡ place_of text rest

-- a token is wrong, and it is this word
pub record IsUnsupported (text : List ℕ) (place : TextPlace) (form : List ℕ) : Type 0 where
  pub tokens : List Lexeme
  pub rest : List Lexeme
  pub has : HasTokens text tokens
  pub wrong : IsWrongAt tokens rest
  pub word : unsupported_in rest ≡ Some form
  pub at : place ≡ place_of text rest

pub record HasTooDeep (text : List ℕ) (place : TextPlace) : Type 0 where
  pub tokens : List Lexeme
  pub rest : List Lexeme
  pub has : HasTokens text tokens
  pub deep : IsTooDeepAt tokens rest
  pub at : place ≡ place_of text rest

-- a name stands twice, the earliest second at this place
pub record HasDuplicate (text : List ℕ) (place : TextPlace) : Type 0 where
  pub written : List RawFunction
  pub is : IsWritten text written
  pub start : ℕ
  pub twice : duplicate_of written ≡ Some start
  pub at : place ≡ text_place text start

-- no name stands twice, and a limit is passed
pub record HasTooMany (text : List ℕ) (what : Limit) : Type 0 where
  pub written : List RawFunction
  pub is : IsWritten text written
  pub single : duplicate_of written ≡ None
  pub passed : limit_of written ≡ Some what

-- the right answer to a text; want of memory is the one that needs no cause
abbrev pub IsAnswer : List ℕ → Result (List Function) TextFault → Type 0
IsAnswer text (Ok fs) = Means text fs
IsAnswer text (Err (answer.Lex f)) = IsLexFault text f
IsAnswer text (Err (answer.Unexpected place)) = IsUnexpected text place
IsAnswer text (Err (answer.Unsupported place form)) = IsUnsupported text place form
IsAnswer text (Err (answer.TooDeep place)) = HasTooDeep text place
IsAnswer text (Err (answer.Duplicate place)) = HasDuplicate text place
IsAnswer text (Err (answer.TooMany what)) = HasTooMany text what
IsAnswer text (Err answer.Memory) = ⊤

-- A text means at most one list of functions, and none where it is refused, want of memory apart.
pub record HasOneMeaning (text : List ℕ) : Type 0 where
  pub one : (a b : List Function) → Means text a → Means text b → a ≡ b
  pub refused : (f : TextFault) → IsAnswer text (Err f) → (f ≡ answer.Memory → ⊥) → (fs : List Function) → Means text fs → ⊥

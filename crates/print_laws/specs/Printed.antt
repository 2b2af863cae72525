-- What it means that bytes are written so that they read again.
use Rattle.std.specs.Prelude.{◌≡◌, ⊤, ℕ, Bool, true, ◌&&◌, not, ◌==◌, List, [], ◌∷◌, codes}
use Rattle.std.specs.Str.{bytes_eq}
use Rattle.mir_lex.specs.declared.token.Token.{Token}
use Rattle.mir_lex.specs.Tokens.{IsToken, Lexes}
use Rattle.mir_lex.specs.Views.{text_of}
use Rattle.grammar_words.specs.Grammar.{starts}
use Rattle.grammar_words.specs.Classes.{inside}
use Rattle.mir_grammar.specs.Lexemes.{Lexeme, class_of}

-- these tokens of a text are of these kinds and have these bytes, wherever they start
abbrev pub AreWritten : List ℕ → List Token → List Lexeme → Type 0
AreWritten text [] [] = ⊤
AreWritten text [] (l ∷ ls) = ⊥
AreWritten text (t ∷ ts) [] = ⊥
AreWritten text (t ∷ ts) (l ∷ ls) = (t.kind ≡ l.kind) × (text_of text t ≡ l.text) × AreWritten text ts ls

-- the tokens of a text are these
abbrev pub Writes : List ℕ → List Lexeme → Type 0
Writes text ls = (ts : List Token) × Lexes text ts × AreWritten text ts ls

-- The token is not the word impl, and not a ( before the word mut. No compiler prints these two words as names. What such
-- tokens mean has no text of its own: `< impl as T>` joins to an impl segment, and `&(mut)` is the type `&mut` of no target.
abbrev pub is_printable : Lexeme → List Lexeme → Bool
is_printable t ts = not (bytes_eq (codes "impl") t.text) && not (class_of t == 1 && starts (inside class_of (117 ∷ [])) ts)

-- no token stands there that cannot be written again
abbrev pub are_printable : List Lexeme → Bool
are_printable [] = true
are_printable (t ∷ ts) = is_printable t ts && are_printable ts

-- the same of lexemes that are tokens
abbrev pub ArePrintable : List Lexeme → Type 0
ArePrintable [] = ⊤
ArePrintable (t ∷ ts) = IsToken t.kind t.text × (is_printable t ts ≡ true) × ArePrintable ts

-- What the code sees of tokens.
use Rattle.std.specs.Prelude.{ℕ, ◌==◌, if◌then◌else◌, List, [], ◌∷◌, drop}
use Rattle.std.specs.Borrow.{Bor}
use Rattle.mir_ir.specs.Names.{int_of_name}
use Rattle.mir_lex.specs.declared.token.TokenKind.{TokenKind}
use Rattle.mir_lex.specs.declared.token.TokenKind.TheVariants as kind
use Rattle.mir_lex.specs.declared.token.Token.{Token}
use Rattle.mir_lex.specs.Views.{text_of, decimal, digits_of, suffix_of}
use Rattle.mir_grammar.specs.Lexemes.{Lexeme, signs, number_among, suffix_class, word_class}

-- a table of texts without references
abbrev pub texts_now : List (Bor (List ℕ)) → List (List ℕ)
texts_now [] = []
texts_now (t ∷ ts) = t.now ∷ texts_now ts

abbrev pub local_class : List ℕ → ℕ
local_class text = if decimal (drop 1 text) == 0 then 30 else 31

-- the class of a token of these bytes
abbrev pub class_in : TokenKind → List ℕ → ℕ
class_in kind.Word text = word_class text
class_in kind.Number text = suffix_class (decimal (digits_of text)) (int_of_name (suffix_of text))
class_in kind.Text text = 40
class_in kind.Character text = 41
class_in kind.Lifetime text = 42
class_in kind.ImplSegment text = 43
class_in kind.Sign text = number_among signs 1 text 0

-- the lexemes of tokens of this source
abbrev pub lexemes : List ℕ → List Token → List Lexeme
lexemes source [] = []
lexemes source (t ∷ ts) = record { kind = t.kind; text = text_of source t; start = t.start } ∷ lexemes source ts

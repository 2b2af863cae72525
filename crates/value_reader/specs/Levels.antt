-- Types and places nested at most d deep, with m turns for each list.
use Rattle.std.specs.Prelude.{ℕ}
use Rattle.grammar_words.specs.Reading.{Reader}
use Rattle.mir_grammar.specs.Lexemes.{Lexeme}
use Rattle.mir_grammar.specs.Types.{Readers, AnyType, type_at}
use Rattle.mir_grammar.specs.declared.named.Named.{Named}
use Rattle.mir_grammar.specs.declared.trees.Placed.{Placed}
use Rattle.mir_grammar.specs.Places.{place_at}

abbrev pub types : ℕ → ℕ → Readers
types m d = type_at m d

abbrev pub places : ℕ → ℕ → Reader Lexeme Placed
places m d = place_at m (type_at m d AnyType) d

-- any type
unfoldable pub any_type : ℕ → ℕ → Reader Lexeme Named
any_type m d = type_at m d AnyType

-- places nested at most l deep, with types in them that are nested at most d deep
unfoldable pub level_place : ℕ → ℕ → ℕ → Reader Lexeme Placed
level_place m d l = place_at m (any_type m d) l

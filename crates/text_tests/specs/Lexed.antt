-- What the tests of readers are given.
use Rattle.std.specs.Prelude.{◌≡◌, ℕ, List}
use Rattle.mir_lex.specs.Tokens.{Lexes}
use Rattle.mir_lex.specs.declared.token.Token.{Token}
use Rattle.mir_grammar.specs.Lexemes.{Lexeme}
use Rattle.mir_pieces.specs.Seen.{lexemes}

-- the tokens into which a text falls
pub record IsLexed (text : List ℕ) (ls : List Lexeme) : Type 0 where
  pub tokens : List Token
  pub lexed : Lexes text tokens
  pub whole : ls ≡ lexemes text tokens

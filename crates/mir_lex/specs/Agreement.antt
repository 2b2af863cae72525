-- What is true of the tokens of every text.
use Rattle.std.specs.Prelude.{◌≡◌, ◌⊎◌, ℕ, List, length}
use Rattle.mir_lex.specs.declared.token.Token.{Token}
use Rattle.mir_lex.specs.declared.fault.FaultKind.{FaultKind}
use Rattle.mir_lex.specs.Tokens.{Lexes, Fails}
use Rattle.mir_lex.specs.Views.{AreSlices, AreInOrder}

-- A text has tokens or a fault, never both, and at most one list of tokens and one fault. The tokens are slices of the
-- text, and stand in it one behind the other.
pub record HasOneLexing (text : List ℕ) : Type 0 where
  pub tokens : (a b : List Token) → Lexes text a → Lexes text b → a ≡ b
  pub fault : (k l : FaultKind) (m n : ℕ) → Fails text k m → Fails text l n → (k ≡ l) × (m ≡ n)
  pub apart : (ts : List Token) (k : FaultKind) (n : ℕ) → Lexes text ts → Fails text k n → ⊥
  pub either : ((ts : List Token) × Lexes text ts) ⊎ ((k : FaultKind) × (n : ℕ) × Fails text k n)
  pub slices : (ts : List Token) → Lexes text ts → AreSlices text ts
  pub order : (ts : List Token) → Lexes text ts → AreInOrder 0 (length text) ts

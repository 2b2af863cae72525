-- Types, places and paths as whole texts, within the limits.
use Rattle.std.specs.Prelude.{◌≡◌, ⊤, ℕ, false, ◌||◌, if◌then◌else◌, List, [], Option, Some, None, Result, Ok, Err}
use Rattle.mir_ir.specs.declared.types.Ty.{Ty}
use Rattle.mir_ir.specs.declared.places.PlaceExpr.{PlaceExpr}
use Rattle.mir_grammar.specs.declared.named.Named.{Named}
use Rattle.mir_grammar.specs.declared.trees.Placed.{Placed}
use Rattle.mir_grammar.specs.Lexemes.{Lexeme}
use Rattle.mir_grammar.specs.Places.{none_passed}
use Rattle.mir_grammar.specs.Functions.{TypeText, PathText, PlaceText}
use Rattle.mir_text.specs.declared.fault.PartFault.{PartFault}
use Rattle.mir_text.specs.declared.fault.PartFault.TheVariants as answer
use Rattle.mir_text.specs.Answers.{HasTokens}

-- the tokens of the text are a type within the limits
pub record IsType (text : List ℕ) (ty : Ty) : Type 0 where
  pub tokens : List Lexeme
  pub has : HasTokens text tokens
  pub named : Named
  pub reads : TypeText 63 tokens named []
  pub short : named.is_long ≡ false
  pub is : ty ≡ named.ty

-- the tokens of the text are a path within the limits, and this is its canonical text
pub record IsPath (text : List ℕ) (name : List ℕ) : Type 0 where
  pub tokens : List Lexeme
  pub has : HasTokens text tokens
  pub named : Named
  pub reads : PathText 63 tokens named []
  pub short : named.is_long ≡ false
  pub is : name ≡ named.text

-- the tokens of the text are a place within the limits
pub record IsPlace (text : List ℕ) (place : PlaceExpr) : Type 0 where
  pub tokens : List Lexeme
  pub has : HasTokens text tokens
  pub placed : Placed
  pub reads : PlaceText 63 tokens placed []
  pub within : placed.passed ≡ none_passed
  pub is : place ≡ placed.place

-- what the code finds of a type, a path and a place within the limits
abbrev pub short_type : Option Named → Option Ty
short_type None = None
short_type (Some n) = if n.is_long then None else Some n.ty

abbrev pub short_path : Option Named → Option (List ℕ)
short_path None = None
short_path (Some n) = if n.is_long then None else Some n.text

abbrev pub near_place : Option Placed → Option PlaceExpr
near_place None = None
near_place (Some p) = if p.passed.locals || (p.passed.blocks || p.passed.names) then None else Some p.place

-- what the text is, or that it is none
abbrev pub IsFound : {A : Type 0} → (A → Type 0) → Option A → Type 0
IsFound {A} Is None = (a : A) → Is a → ⊥
IsFound Is (Some a) = Is a

-- the answer is what the text is, or that it is none
abbrev pub IsPartAnswer : {A : Type 0} → (A → Type 0) → Result A PartFault → Type 0
IsPartAnswer Is (Ok a) = Is a
IsPartAnswer {A} Is (Err answer.NotOne) = (a : A) → Is a → ⊥
IsPartAnswer Is (Err answer.Memory) = ⊤

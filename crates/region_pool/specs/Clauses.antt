-- Literals as words, and lists of clauses over a count of variables.
use Rattle.std.specs.Prelude.{ℕ, List, ◌*◌, ◌<◌, All}

-- a literal of one of so many variables: 2 * v for the variable v, or 2 * v + 1 for its negation
abbrev pub IsLiteral : ℕ → ℕ → Type 0
IsLiteral variables literal = literal < 2 * variables

abbrev pub AreLiterals : ℕ → List ℕ → Type 0
AreLiterals variables literals = All (IsLiteral variables) literals

-- clauses over a count of variables; a clause says that one of its literals is true
pub record ClauseList : Type 0 where
  pub variables : ℕ
  pub clauses : List (List ℕ)

-- each literal is of one of the variables
abbrev pub HasLiterals : ClauseList → Type 0
HasLiterals list = All (AreLiterals list.variables) list.clauses

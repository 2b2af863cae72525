-- The clauses that a search knows.
use Rattle.std.specs.Prelude.{ℕ, List, ◌++◌, All}
use Rattle.region_pool.specs.Clauses.{ClauseList, AreLiterals}
use Rattle.region_pool.specs.Log.{Line}
use Rattle.region_pool.specs.Refutation.{literals_of}

-- the input clauses, and then the lines
abbrev pub known_clauses : ClauseList → List Line → List (List ℕ)
known_clauses input log = input.clauses ++ literals_of log

-- each literal is of one of the variables
abbrev pub LinesFit : ℕ → List Line → Type 0
LinesFit variables log = All (AreLiterals variables) (literals_of log)

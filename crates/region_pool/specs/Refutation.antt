-- When a line follows by its hints, when a log refutes its clauses, and when a log is spent.
--
-- Clauses and lines count as the sets of their literals. A list of literals that are true stands for a partial assignment.
use Rattle.std.specs.Prelude.{◌≡◌, ◌≢◌, ◌⊎◌, ℕ, List, [], ◌∷◌, ◌++◌, ◌-◌, ◌<◌, length, map, take, All, Contains}
use Rattle.region_pool.specs.Blocks.{block_at}
use Rattle.region_pool.specs.Clauses.{ClauseList, AreLiterals}
use Rattle.region_pool.specs.Log.{Line, line_at}
use Rattle.region_pool.specs.Literals.{negation}

-- false, where the literals of the list are true
abbrev pub IsFalse : List ℕ → ℕ → Type 0
IsFalse assigned literal = Contains assigned (negation literal)

-- neither true nor false
abbrev pub IsOpen : List ℕ → ℕ → Type 0
IsOpen assigned literal = (¬ Contains assigned literal) × (¬ IsFalse assigned literal)

-- each literal of the clause is false
abbrev pub IsFalsified : List ℕ → List ℕ → Type 0
IsFalsified assigned clause = All (IsFalse assigned) clause

-- as a set, the clause has just this literal that is not false, and it is open
pub record IsUnit (assigned clause : List ℕ) (literal : ℕ) : Type 0 where
  pub member : Contains clause literal
  pub free : IsOpen assigned literal
  pub others : All (λ other. (other ≡ literal) ⊎ IsFalse assigned other) clause

-- the hinted clauses, taken in order, each make one literal true, until all literals of one are false
abbrev pub Reaches : List (List ℕ) → List ℕ → List ℕ → Type 0
Reaches clauses assigned [] = ⊥
Reaches clauses assigned (hint ∷ hints) =
    IsFalsified assigned (block_at clauses hint)
    ⊎ ((literal : ℕ) × IsUnit assigned (block_at clauses hint) literal × Reaches clauses (literal ∷ assigned) hints)

abbrev pub negations : List ℕ → List ℕ
negations literals = map negation literals

-- no literal stands beside its negation
abbrev pub IsConsistent : List ℕ → Type 0
IsConsistent literals = All (λ literal. ¬ Contains literals (negation literal)) literals

-- the line follows from these clauses by unit propagation along its hints
pub record LineFollows (variables : ℕ) (clauses : List (List ℕ)) (line : Line) : Type 0 where
  pub literals : AreLiterals variables line.literals
  pub consistent : IsConsistent line.literals
  pub hints : All (λ hint. hint < length clauses) line.hints
  pub conflict : Reaches clauses (negations line.literals) line.hints

abbrev pub literals_of : List Line → List (List ℕ)
literals_of lines = map (λ line. line.literals) lines

-- what a line with this number may hint at: the input clauses, and then the lines before it
abbrev pub known_before : ClauseList → List Line → ℕ → List (List ℕ)
known_before input log number = input.clauses ++ literals_of (take number log)

-- the line with this number follows
abbrev pub FollowsAt : ClauseList → List Line → ℕ → Type 0
FollowsAt input log number = LineFollows input.variables (known_before input log number) (line_at log number)

-- each of the first so many lines follows
abbrev pub EachFollows : ClauseList → List Line → ℕ → Type 0
EachFollows input log count = (number : ℕ) → number < count → FollowsAt input log number

-- there is a last line, and it is empty
abbrev pub EndsEmpty : List Line → Type 0
EndsEmpty log = (0 < length log) × ((line_at log (length log - 1)).literals ≡ [])

-- each line follows, and the last is empty
pub record Refutes (input : ClauseList) (log : List Line) : Type 0 where
  pub follows : EachFollows input log (length log)
  pub ends : EndsEmpty log

-- the clause is a part of these literals, as a set
abbrev pub IsPartOf : List ℕ → List ℕ → Type 0
IsPartOf clause literals = All (Contains literals) clause

-- no clause is a part of these literals
abbrev pub IsNew : List (List ℕ) → List ℕ → Type 0
IsNew clauses literals = All (λ clause. ¬ IsPartOf clause literals) clauses

-- the line follows, is not empty, and has no known clause as a part
pub record IsGained (variables : ℕ) (clauses : List (List ℕ)) (line : Line) : Type 0 where
  pub follows : LineFollows variables clauses line
  pub filled : line.literals ≢ []
  pub novel : IsNew clauses line.literals

-- each line follows, is not empty, and contains no input clause and no earlier line
abbrev pub IsSpent : ClauseList → List Line → Type 0
IsSpent input log =
    (number : ℕ) → number < length log → IsGained input.variables (known_before input log number) (line_at log number)

-- What a look at a clause finds, and what a turn along the hints does.
use Rattle.std.specs.Prelude.{ℕ, List, ◌∷◌, ◌++◌}
use Rattle.region_pool.specs.Log.{Line}
use Rattle.region_pool.specs.Clauses.{ClauseList}
use Rattle.region_pool.specs.Refutation.{IsFalsified, IsUnit, literals_of}
use Rattle.refute_check.specs.Marks.{IsSameSet}
use Rattle.refute_check.specs.declared.propagation.Standing.{Standing}
use Rattle.refute_check.specs.declared.propagation.Standing.TheVariants.{Falsified, Forces, Neither}
use Rattle.refute_check.specs.declared.propagation.Turn.{Turn}
use Rattle.refute_check.specs.declared.propagation.Turn.TheVariants.{Conflict, Propagated, Stuck}

-- each literal is false; or this literal alone is not, and is open; or neither is so
abbrev pub StandingIs : List ℕ → List ℕ → Standing → Type 0
StandingIs assigned clause Falsified = IsFalsified assigned clause
StandingIs assigned clause (Forces literal) = IsUnit assigned clause literal
StandingIs assigned clause Neither = (¬ IsFalsified assigned clause) × ((literal : ℕ) → ¬ IsUnit assigned clause literal)

-- the clause is falsified; or it made its literal true; or neither is so
abbrev pub TurnIs : List ℕ → List ℕ → List ℕ → Turn → Type 0
TurnIs before after clause Conflict = IsFalsified before clause
TurnIs before after clause Propagated = (literal : ℕ) × IsUnit before clause literal × IsSameSet (literal ∷ before) after
TurnIs before after clause Stuck = (¬ IsFalsified before clause) × ((literal : ℕ) → ¬ IsUnit before clause literal)

-- the input clauses, and all the lines
abbrev pub all_clauses : ClauseList → List Line → List (List ℕ)
all_clauses input log = input.clauses ++ literals_of log

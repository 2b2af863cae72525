-- What a turn of the search says.
use Rattle.std.specs.Prelude.{◌≡◌, ◌<◌, ◌^◌, ℕ, List, length}
use Rattle.region_pool.specs.Clauses.{ClauseList}
use Rattle.region_pool.specs.Log.{Line}
use Rattle.region_pool.specs.Refutation.{IsSpent, Refutes}
use Rattle.sat_core.specs.Progress.{progress}
use Rattle.sat_core.specs.Search.{IsSearch, AreSatisfied}
use Rattle.sat_core.specs.Trail.{Steps}
use Rattle.sat_core.specs.Known.{known_clauses}
use Rattle.sat_core.specs.Passing.{IsWatching}
use Rattle.sat_core.specs.Watches.{AreWatched}
use Rattle.sat_core.specs.declared.search.Search.{Search}
use Rattle.sat_core.specs.declared.search.Turn.{Turn}
use Rattle.sat_core.specs.declared.search.Turn.TheVariants.{Going, Satisfied, Refuted, OutOfBudget}

-- the clauses of the search are watched, and propagation has come to its front
abbrev pub IsWatchingAll : ClauseList → Search → Type 0
IsWatchingAll input search = IsWatching input search.log search.trail search.watching.pairs.items search.watching.lists search.front

-- the clauses of the search are watched
abbrev pub AreAllWatched : ClauseList → Search → Type 0
AreAllWatched input search = AreWatched input.variables (known_clauses input search.log) search.trail.steps search.watching.pairs.items search.watching.lists

-- a search that came further
pub record Advances (input : ClauseList) (before : ℕ) (log : List Line) (trail : Steps) : Type 0 where
  pub search : IsSearch input log trail
  pub further : before < progress input.variables trail.steps

-- the log is spent at this budget, which is not so large that no log is
pub record IsSpentAt (input : ClauseList) (budget : ℕ) (log : List Line) : Type 0 where
  pub spent : IsSpent input log
  pub count : length log ≡ budget
  pub few : length log < 3 ^ input.variables
  pub short : length log < 2 ^ 60

-- a search that came further, whose clauses are watched
pub record Goes (input : ClauseList) (before : ℕ) (search : Search) : Type 0 where
  pub watching : IsWatchingAll input search
  pub further : before < progress input.variables search.trail.steps

-- the search goes on, or has its answer
abbrev pub TurnIs : ClauseList → ℕ → ℕ → Search → Turn → Type 0
TurnIs input budget before search Going = Goes input before search
TurnIs input budget before search Satisfied = AreSatisfied input search.trail
TurnIs input budget before search Refuted = Refutes input search.log
TurnIs input budget before search OutOfBudget = IsSpentAt input budget search.log

-- What stays true along a search.
use Rattle.std.specs.Prelude.{◌≡◌, ◌≤◌, List, length, All}
use Rattle.region_pool.specs.Clauses.{ClauseList, HasLiterals}
use Rattle.region_pool.specs.Log.{Line}
use Rattle.region_pool.specs.Refutation.{IsSpent}
use Rattle.sat_core.specs.Known.{known_clauses, LinesFit}
use Rattle.sat_core.specs.Progress.{progress}
use Rattle.sat_core.specs.Choice.{IsSatisfied}
use Rattle.sat_core.specs.Steps.{literals_of_steps, EachStep, Fits, IsCaused}
use Rattle.sat_core.specs.Trail.{Steps}

-- the lines are a spent log, each step fits and has its cause, and there are no more lines than the trail has progress
pub record IsSearch (input : ClauseList) (log : List Line) (trail : Steps) : Type 0 where
  pub variables : trail.variables ≡ input.variables
  pub literals : HasLiterals input
  pub lines : LinesFit input.variables log
  pub gained : IsSpent input log
  pub fit : EachStep (Fits input.variables) trail.steps
  pub caused : EachStep (IsCaused (known_clauses input log)) trail.steps
  pub counted : length log ≤ progress input.variables trail.steps

-- each input clause has a literal that the trail makes true
pub record AreSatisfied (input : ClauseList) (trail : Steps) : Type 0 where
  pub variables : trail.variables ≡ input.variables
  pub fit : EachStep (Fits input.variables) trail.steps
  pub clauses : All (IsSatisfied (literals_of_steps trail.steps)) input.clauses

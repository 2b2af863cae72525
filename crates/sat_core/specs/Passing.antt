-- What unit propagation keeps, and what it finds.
use Rattle.std.specs.Prelude.{◌≡◌, ◌≢◌, ◌⊎◌, ◌+◌, ◌<◌, ◌≤◌, ℕ, List, Option, Some, None, length, Contains}
use Rattle.region_pool.specs.Blocks.{block_at}
use Rattle.region_pool.specs.Clauses.{ClauseList}
use Rattle.region_pool.specs.Log.{Line}
use Rattle.region_pool.specs.Refutation.{IsFalsified}
use Rattle.watch_lists.specs.declared.lists.Watch.{Watch}
use Rattle.watch_lists.specs.Lists.{list_at, watch_at}
use Rattle.sat_core.specs.declared.propagate.Place.{Place}
use Rattle.sat_core.specs.declared.propagate.Visit.{Visit}
use Rattle.sat_core.specs.declared.propagate.Visit.TheVariants.{Stays, Moves, Conflict}
use Rattle.sat_core.specs.declared.watching.Pair.{Pair}
use Rattle.sat_core.specs.Known.{known_clauses}
use Rattle.sat_core.specs.Progress.{progress}
use Rattle.sat_core.specs.Search.{IsSearch}
use Rattle.sat_core.specs.Steps.{literals_of_steps}
use Rattle.sat_core.specs.Trail.{Steps}
use Rattle.sat_core.specs.Watches.{pair_at, AreWatched, IsFront, IsPassing, false_at}

-- a search, whose clauses are watched, at the watch with this place
pub record IsRunning (input : ClauseList) (log : List Line) (trail : Steps) (pairs : List Pair) (lists : List (List Watch)) (place : Place) : Type 0 where
  pub search : IsSearch input log trail
  pub watches : AreWatched input.variables (known_clauses input log) trail.steps pairs lists
  pub passing : IsPassing (known_clauses input log) trail.steps pairs lists place.front place.at
  pub literal : place.literal ≡ false_at trail.steps place.front

-- the place has a watch
abbrev pub IsAt : List (List Watch) → Place → Type 0
IsAt lists place = place.at < length (list_at lists place.literal)

-- the watched literal beside this one
abbrev pub IsOtherOf : Pair → ℕ → ℕ → Type 0
IsOtherOf pair literal other = ((pair.first ≡ literal) × (other ≡ pair.second)) ⊎ ((pair.first ≢ literal) × (other ≡ pair.first))

-- the clause at the place, and its watched literal beside that of the place, which is not true
pub record IsLookedAt (steps : Steps) (pairs : List Pair) (lists : List (List Watch)) (place : Place) (number other : ℕ) : Type 0 where
  pub here : (watch_at (list_at lists place.literal) place.at).clause ≡ number
  pub watches : (other ≡ (pair_at pairs number).first) ⊎ (other ≡ (pair_at pairs number).second)
  pub lives : other ≢ place.literal
  pub not_true : ¬ Contains (literals_of_steps steps.steps) other

-- the search goes on at a place, and comes no less far than before
pub record RunsOn (input : ClauseList) (log : List Line) (before : ℕ) (trail : Steps) (pairs : List Pair) (lists : List (List Watch)) (place : Place) : Type 0 where
  pub running : IsRunning input log trail pairs lists place
  pub further : before ≤ progress input.variables trail.steps

-- a clause is falsified
pub record IsConflict (input : ClauseList) (log : List Line) (trail : Steps) (number : ℕ) : Type 0 where
  pub within : number < length (known_clauses input log)
  pub falsified : IsFalsified (literals_of_steps trail.steps) (block_at (known_clauses input log) number)

-- after a look at the watch with this place, of a list that was so long
abbrev pub VisitIs : ClauseList → List Line → ℕ → ℕ → Steps → List Pair → List (List Watch) → Place → Visit → Type 0
VisitIs input log before long trail pairs lists place Stays =
    RunsOn input log before trail pairs lists (record place { at = place.at + 1 }) × (length (list_at lists place.literal) ≡ long)
VisitIs input log before long trail pairs lists place Moves =
    RunsOn input log before trail pairs lists place × (length (list_at lists place.literal) + 1 ≡ long)
VisitIs input log before long trail pairs lists place (Conflict number) =
    RunsOn input log before trail pairs lists place × IsConflict input log trail number

-- a search, whose clauses are watched, where propagation has come so far
pub record IsWatching (input : ClauseList) (log : List Line) (trail : Steps) (pairs : List Pair) (lists : List (List Watch)) (front : ℕ) : Type 0 where
  pub search : IsSearch input log trail
  pub watches : AreWatched input.variables (known_clauses input log) trail.steps pairs lists
  pub fronts : IsFront (known_clauses input log) trail.steps pairs front

-- a search, whose clauses are watched, with a conflict or without
pub record Propagates (input : ClauseList) (log : List Line) (before : ℕ) (trail : Steps) (pairs : List Pair) (lists : List (List Watch)) : Type 0 where
  pub search : IsSearch input log trail
  pub watches : AreWatched input.variables (known_clauses input log) trail.steps pairs lists
  pub further : before ≤ progress input.variables trail.steps

-- the clause is falsified, or propagation has come so far
abbrev pub PropagationIs : ClauseList → List Line → ℕ → Steps → List Pair → List (List Watch) → ℕ → Option ℕ → Type 0
PropagationIs input log before trail pairs lists front (Some number) =
    Propagates input log before trail pairs lists × IsConflict input log trail number
PropagationIs input log before trail pairs lists front None =
    Propagates input log before trail pairs lists × IsFront (known_clauses input log) trail.steps pairs front

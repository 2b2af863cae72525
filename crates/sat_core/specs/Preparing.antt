-- What is true before the search: so many of the clauses are watched, and no step is a decision.
use Rattle.std.specs.Prelude.{◌≡◌, ◌≢◌, ◌⊎◌, ℕ, List, [], ◌∷◌, ◌++◌, Option, Some, None, length, take, All}
use Rattle.region_pool.specs.Blocks.{block_at}
use Rattle.region_pool.specs.Clauses.{ClauseList}
use Rattle.region_pool.specs.Log.{Line}
use Rattle.watch_lists.specs.declared.lists.Watch.{Watch}
use Rattle.sat_core.specs.declared.trail.Step.{Step}
use Rattle.sat_core.specs.declared.watching.Pair.{Pair}
use Rattle.sat_core.specs.Passing.{IsConflict}
use Rattle.sat_core.specs.Roles.{IsDecision, NoneDecided}
use Rattle.sat_core.specs.Search.{IsSearch}
use Rattle.sat_core.specs.Steps.{literals_of_steps}
use Rattle.sat_core.specs.Trail.{Steps}
use Rattle.sat_core.specs.Watches.{IsPair, Rests, EachRests, AreWatched}

pub record IsPreparing (input : ClauseList) (log : List Line) (trail : Steps) (pairs : List Pair) (lists : List (List Watch)) (number : ℕ) : Type 0 where
  pub empty : log ≡ []
  pub search : IsSearch input log trail
  pub watches : AreWatched input.variables (take number input.clauses) trail.steps pairs lists
  pub rests : EachRests [] (literals_of_steps trail.steps) (take number input.clauses) pairs
  pub forced : NoneDecided trail.steps 0 (length trail.steps)

-- a clause is falsified, and no step is a decision
pub record IsRefutable (input : ClauseList) (log : List Line) (trail : Steps) (number : ℕ) : Type 0 where
  pub search : IsSearch input log trail
  pub forced : NoneDecided trail.steps 0 (length trail.steps)
  pub conflict : IsConflict input log trail number

-- two literals of the clause that differ, or its only one
pub record IsFirstPair (clause : List ℕ) (pair : Pair) : Type 0 where
  pub members : IsPair clause pair
  pub differs : (pair.first ≢ pair.second) ⊎ All (λ x. x ≡ pair.first) clause

-- the trail is as it was, or has one forced step more
abbrev pub IsForcedFrom : Steps → Steps → Type 0
IsForcedFrom old new = (new ≡ old) ⊎ ((step : Step) × (new ≡ record old { steps = old.steps ++ step ∷ [] }) × (¬ IsDecision step.cause))

-- the clause rests with this pair, where no step is seen
pub record Settles (input : ClauseList) (log : List Line) (old new : Steps) (number : ℕ) (pair : Pair) : Type 0 where
  pub search : IsSearch input log new
  pub from : IsForcedFrom old new
  pub rests : Rests [] (literals_of_steps new.steps) (block_at input.clauses number) pair

-- a clause is falsified, or this one rests
abbrev pub SettlesIs : ClauseList → List Line → Steps → Steps → ℕ → Pair → Option ℕ → Type 0
SettlesIs input log old new number pair (Some conflict) = IsRefutable input log new conflict
SettlesIs input log old new number pair None = Settles input log old new number pair

-- a clause is falsified, or so many are watched
abbrev pub PreparesIs : ClauseList → List Line → Steps → List Pair → List (List Watch) → ℕ → Option ℕ → Type 0
PreparesIs input log trail pairs lists number (Some conflict) = IsRefutable input log trail conflict
PreparesIs input log trail pairs lists number None = IsPreparing input log trail pairs lists number

-- What the watched literals of clauses say.
use Rattle.std.specs.Prelude.{◌≡◌, ◌≢◌, ◌⊎◌, ◌<◌, ◌≤◌, ◌+◌, ◌*◌, ℕ, List, ◌++◌, ◌∷◌, [], length, take, slice_index_or, Contains}
use Rattle.region_pool.specs.Blocks.{block_at}
use Rattle.region_pool.specs.Literals.{negation}
use Rattle.region_pool.specs.Refutation.{IsFalse}
use Rattle.watch_lists.specs.declared.lists.Watch.{Watch}
use Rattle.watch_lists.specs.Lists.{list_at, watch_at, with_list, swap_removed}
use Rattle.sat_core.specs.declared.trail.Step.{Step}
use Rattle.sat_core.specs.declared.trail.Cause.{Cause}
use Rattle.sat_core.specs.declared.trail.Cause.TheVariants.{Decision, Clause}
use Rattle.sat_core.specs.declared.watching.Pair.{Pair}
use Rattle.sat_core.specs.Choice.{IsSatisfied}
use Rattle.sat_core.specs.Steps.{literals_of_steps, step_at, EachStep}

-- the pair of the clause with this number
abbrev pub pair_at : List Pair → ℕ → Pair
pair_at pairs number = slice_index_or pairs number (record { first = 0; second = 0 })

-- both are literals of the clause
pub record IsPair (clause : List ℕ) (pair : Pair) : Type 0 where
  pub first : Contains clause pair.first
  pub second : Contains clause pair.second

-- two literals, neither of which is false
pub record IsAwake (seen : List ℕ) (pair : Pair) : Type 0 where
  pub apart : pair.first ≢ pair.second
  pub first : ¬ IsFalse seen pair.first
  pub second : ¬ IsFalse seen pair.second

-- a literal of the clause is true, or no watched one is false among those that were seen
abbrev pub Rests : List ℕ → List ℕ → List ℕ → Pair → Type 0
Rests seen assigned clause pair = IsSatisfied assigned clause ⊎ IsAwake seen pair

-- each clause rests
abbrev pub EachRests : List ℕ → List ℕ → List (List ℕ) → List Pair → Type 0
EachRests seen assigned clauses pairs = (number : ℕ) → number < length clauses → Rests seen assigned (block_at clauses number) (pair_at pairs number)

-- the list has the clause, from a place on
abbrev pub Waits : List Watch → ℕ → ℕ → Type 0
Waits list low number = (at : ℕ) × (low ≤ at) × (at < length list) × ((watch_at list at).clause ≡ number)

-- the blocker is a literal of the clause
abbrev pub IsWatchOf : List (List ℕ) → Watch → Type 0
IsWatchOf clauses watch = (watch.clause < length clauses) × Contains (block_at clauses watch.clause) watch.blocker

-- each clause has two watched literals, and waits in their lists
pub record AreListed (clauses : List (List ℕ)) (pairs : List Pair) (lists : List (List Watch)) : Type 0 where
  pub count : length pairs ≡ length clauses
  pub members : (number : ℕ) → number < length clauses → IsPair (block_at clauses number) (pair_at pairs number)
  pub watches : (literal at : ℕ) → at < length (list_at lists literal) → IsWatchOf clauses (watch_at (list_at lists literal) at)
  pub first : (number : ℕ) → number < length clauses → Waits (list_at lists (pair_at pairs number).first) 0 number
  pub second : (number : ℕ) → number < length clauses → Waits (list_at lists (pair_at pairs number).second) 0 number

-- where a decision was made, each clause rests
abbrev pub RestsAt : List (List ℕ) → List Pair → List ℕ → Cause → Type 0
RestsAt clauses pairs before Decision = EachRests before before clauses pairs
RestsAt clauses pairs before (Clause number) = Unit {0}

abbrev pub RestsBefore : List (List ℕ) → List Pair → List ℕ → Step → Type 0
RestsBefore clauses pairs before step = RestsAt clauses pairs before step.cause

-- the clauses are listed, and rest at each decision
pub record AreWatched (variables : ℕ) (clauses : List (List ℕ)) (steps : List Step) (pairs : List Pair) (lists : List (List Watch)) : Type 0 where
  pub sized : length lists ≡ 2 * variables
  pub listed : AreListed clauses pairs lists
  pub decided : EachStep (RestsBefore clauses pairs) steps

-- propagation has come so far: the clauses rest, where the literals of the first so many steps are seen
pub record IsFront (clauses : List (List ℕ)) (steps : List Step) (pairs : List Pair) (front : ℕ) : Type 0 where
  pub within : front ≤ length steps
  pub rests : EachRests (literals_of_steps (take front steps)) (literals_of_steps steps) clauses pairs

-- the literal that the step at the front makes false
abbrev pub false_at : List Step → ℕ → ℕ
false_at steps front = negation (step_at steps front).literal

-- the clause rests where one step more is seen, or rests and waits from a place on in the list of the literal that becomes false
abbrev pub IsPending : List (List ℕ) → List Step → List Pair → List (List Watch) → ℕ → ℕ → ℕ → Type 0
IsPending clauses steps pairs lists front at number =
    Rests (literals_of_steps (take (front + 1) steps)) (literals_of_steps steps) (block_at clauses number) (pair_at pairs number)
    ⊎ (Rests (literals_of_steps (take front steps)) (literals_of_steps steps) (block_at clauses number) (pair_at pairs number)
    × Waits (list_at lists (false_at steps front)) at number)

-- the watches of the literal that becomes false are looked at up to a place
pub record IsPassing (clauses : List (List ℕ)) (steps : List Step) (pairs : List Pair) (lists : List (List Watch)) (front at : ℕ) : Type 0 where
  pub within : front < length steps
  pub pending : (number : ℕ) → number < length clauses → IsPending clauses steps pairs lists front at number

-- the lists with one watch more
abbrev pub pushed : List (List Watch) → ℕ → Watch → List (List Watch)
pushed lists literal watch = with_list lists literal (list_at lists literal ++ watch ∷ [])

-- the lists with a watch for each literal of the pair
abbrev pub watched : List (List Watch) → ℕ → Pair → List (List Watch)
watched lists number pair =
    pushed (pushed lists pair.first (record { clause = number; blocker = pair.second })) pair.second (record { clause = number; blocker = pair.first })

-- the lists where one watch waits for another literal
abbrev pub moved : List (List Watch) → ℕ → ℕ → ℕ → Watch → List (List Watch)
moved lists literal at other watch =
    let more = pushed lists other watch in
    with_list more literal (swap_removed (list_at more literal) at)

-- The line that is learned at a conflict.
use Rattle.std.specs.Prelude.{◌≡◌, ◌⊎◌, ◌<◌, ◌≤◌, ℕ, List, [], ◌∷◌, ◌++◌, length, take}
use Rattle.region_pool.specs.Literals.{negation}
use Rattle.region_pool.specs.Log.{Line}
use Rattle.sat_core.specs.declared.roles.Role.{Role}
use Rattle.sat_core.specs.declared.roles.Role.TheVariants.{Unused, Kept, Resolved}
use Rattle.sat_core.specs.declared.trail.Cause.{Cause}
use Rattle.sat_core.specs.declared.trail.Cause.TheVariants.{Decision, Clause}
use Rattle.sat_core.specs.declared.trail.Step.{Step}
use Rattle.sat_core.specs.Roles.{role_at, IsDecision}
use Rattle.sat_core.specs.declared.watching.Pair.{Pair}
use Rattle.sat_core.specs.Steps.{literals_of_steps, step_at}
use Rattle.sat_core.specs.Watches.{IsPair, IsAwake}

-- what a function gives for each step and its role, one after another
abbrev pub gather : (Role → Step → List ℕ) → List Step → List Role → List ℕ
gather f [] roles = []
gather f (step ∷ steps) [] = []
gather f (step ∷ steps) (role ∷ roles) = f role step ++ gather f steps roles

-- the negation of a kept step's literal
abbrev pub literals_of_role : Role → Step → List ℕ
literals_of_role Unused step = []
literals_of_role Kept step = negation step.literal ∷ []
literals_of_role Resolved step = []

-- the number of the clause that forced a literal
abbrev pub hints_of_cause : Cause → List ℕ
hints_of_cause Decision = []
hints_of_cause (Clause number) = number ∷ []

-- the clause that forced a resolved step
abbrev pub hints_of_role : Role → Step → List ℕ
hints_of_role Unused step = []
hints_of_role Kept step = []
hints_of_role Resolved step = hints_of_cause step.cause

-- the negations of the kept steps, by the clauses that forced the resolved ones, and then the clause that is falsified
abbrev pub line_of : List Step → List Role → ℕ → Line
line_of steps roles conflict = record {
  literals = gather literals_of_role steps roles;
  hints = gather hints_of_role steps roles ++ conflict ∷ [];
}

-- one kept step is not before the cut, which is at a decision, and between each decision before the cut and the cut a step is kept
pub record IsAsserting (steps : List Step) (roles : List Role) (asserted cut : ℕ) : Type 0 where
  pub kept : role_at roles asserted ≡ Kept
  pub within : asserted < length steps
  pub after : cut ≤ asserted
  pub others : (at : ℕ) → role_at roles at ≡ Kept → (at ≡ asserted) ⊎ (at < cut)
  pub decided : IsDecision (step_at steps cut).cause
  pub holds : (at : ℕ) → at < cut → IsDecision (step_at steps at).cause → (top : ℕ) × (at ≤ top) × (top < cut) × (role_at roles top ≡ Kept)

-- two literals of the line that are watched: that of the asserted step, and one that was not false at any decision before the cut
pub record IsLinePair (steps : List Step) (roles : List Role) (asserted cut : ℕ) (pair : Pair) : Type 0 where
  pub first : pair.first ≡ negation (step_at steps asserted).literal
  pub members : IsPair (gather literals_of_role steps roles) pair
  pub awake : (at : ℕ) → at < cut → IsDecision (step_at steps at).cause → IsAwake (literals_of_steps (take at steps)) pair

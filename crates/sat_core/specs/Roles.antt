-- What the steps of a trail have to do with the line that is learned at a conflict.
use Rattle.std.specs.Prelude.{◌≡◌, ◌≢◌, ◌⊎◌, ℕ, List, ◌+◌, ◌<◌, ◌≤◌, length, slice_index_or, All, Contains}
use Rattle.region_pool.specs.Blocks.{block_at}
use Rattle.region_pool.specs.Literals.{negation}
use Rattle.sat_core.specs.declared.roles.Role.{Role}
use Rattle.sat_core.specs.declared.roles.Role.TheVariants.{Unused, Kept, Resolved}
use Rattle.sat_core.specs.declared.trail.Cause.{Cause}
use Rattle.sat_core.specs.declared.trail.Cause.TheVariants.{Decision, Clause}
use Rattle.sat_core.specs.declared.trail.Step.{Step}
use Rattle.sat_core.specs.Steps.{step_at}

-- the role of the step with this number
abbrev pub role_at : List Role → ℕ → Role
role_at roles at = slice_index_or roles at Unused

-- the step is kept where it had no role, and nothing else changes
pub record Marks (at : ℕ) (old new : List Role) : Type 0 where
  pub long : length new ≡ length old
  pub others : (other : ℕ) → other ≢ at → role_at new other ≡ role_at old other
  pub here : role_at new at ≢ Unused
  pub was : (role_at new at ≡ role_at old at) ⊎ ((role_at old at ≡ Unused) × (role_at new at ≡ Kept))

-- the step makes a literal of the clause false
abbrev pub Falsifies : List Step → List ℕ → ℕ → Type 0
Falsifies steps clause at = (literal : ℕ) × Contains clause literal × ((step_at steps at).literal ≡ negation literal)

-- the steps that make literals of the clause false have a role now, and the other steps keep theirs
pub record Blames (steps : List Step) (clause : List ℕ) (old new : List Role) : Type 0 where
  pub long : length new ≡ length old
  pub marks : (at : ℕ) → (role_at new at ≡ role_at old at)
      ⊎ ((at < length steps) × (role_at old at ≡ Unused) × (role_at new at ≡ Kept) × Falsifies steps clause at)
  pub covers : (at : ℕ) → at < length steps → Falsifies steps clause at → role_at new at ≢ Unused

-- a step with a role, before this place, makes the literal false
abbrev pub IsBlamed : List Step → List Role → ℕ → ℕ → Type 0
IsBlamed steps roles limit literal =
    (at : ℕ) × (at < limit) × ((step_at steps at).literal ≡ negation literal) × (role_at roles at ≢ Unused)

-- the clause that forced the step has no other literals than those that earlier steps with a role make false
abbrev pub IsExplainedBy : List (List ℕ) → List Step → List Role → ℕ → Cause → Type 0
IsExplainedBy clauses steps roles at Decision = ⊥
IsExplainedBy clauses steps roles at (Clause number) =
    All (λ other. (other ≡ (step_at steps at).literal) ⊎ IsBlamed steps roles at other) (block_at clauses number)

-- the same, of the clause that forced this step
abbrev pub IsExplained : List (List ℕ) → List Step → List Role → ℕ → Type 0
IsExplained clauses steps roles at = IsExplainedBy clauses steps roles at (step_at steps at).cause

-- the steps with a role derive the conflict from those that are kept
pub record Derives (clauses : List (List ℕ)) (conflict : List ℕ) (steps : List Step) (roles : List Role) : Type 0 where
  pub long : length roles ≡ length steps
  pub falsified : All (IsBlamed steps roles (length steps)) conflict
  pub resolved : (at : ℕ) → at < length steps → role_at roles at ≡ Resolved → IsExplained clauses steps roles at

-- the step is resolved now, and earlier steps that it follows from have a role
pub record Resolves (clauses : List (List ℕ)) (steps : List Step) (at : ℕ) (old new : List Role) : Type 0 where
  pub long : length new ≡ length old
  pub here : role_at new at ≡ Resolved
  pub explained : IsExplained clauses steps new at
  pub others : (other : ℕ) → other ≢ at → (role_at new other ≡ role_at old other)
      ⊎ ((other < at) × (role_at old other ≡ Unused) × (role_at new other ≡ Kept))

-- no step from the one place to the other is kept
abbrev pub NoneKept : List Role → ℕ → ℕ → Type 0
NoneKept roles low high = (at : ℕ) → low ≤ at → at < high → role_at roles at ≢ Kept

-- the step is kept, and no later one before the other place
pub record IsLastKept (roles : List Role) (low high at : ℕ) : Type 0 where
  pub above : low ≤ at
  pub below : at < high
  pub kept : role_at roles at ≡ Kept
  pub last : NoneKept roles (at + 1) high

-- the literal was decided, and not forced
abbrev pub IsDecision : Cause → Type 0
IsDecision Decision = Unit {0}
IsDecision (Clause number) = ⊥

-- no step from the one place to the other is a decision
abbrev pub NoneDecided : List Step → ℕ → ℕ → Type 0
NoneDecided steps low high = (at : ℕ) → low ≤ at → at < high → ¬ IsDecision (step_at steps at).cause

-- what the steps with a role derive is kept
pub record Keeps (clauses : List (List ℕ)) (steps : List Step) (old new : List Role) : Type 0 where
  pub long : length new ≡ length old
  pub derives : (conflict : List ℕ) → Derives clauses conflict steps old → Derives clauses conflict steps new

-- the roles from a place on are the same
abbrev pub SameFrom : ℕ → List Role → List Role → Type 0
SameFrom low old new = (at : ℕ) → low ≤ at → role_at new at ≡ role_at old at

-- the step is a decision, and no later one is
pub record IsLastDecision (steps : List Step) (at : ℕ) : Type 0 where
  pub within : at < length steps
  pub decided : IsDecision (step_at steps at).cause
  pub after : NoneDecided steps (at + 1) (length steps)

-- the first decision from a place on, up to the last
pub record IsFirstDecision (steps : List Step) (low last at : ℕ) : Type 0 where
  pub above : low ≤ at
  pub below : at ≤ last
  pub decided : IsDecision (step_at steps at).cause
  pub before : NoneDecided steps low at

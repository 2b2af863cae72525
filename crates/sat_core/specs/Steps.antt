-- The steps of a trail.
use Rattle.std.specs.Prelude.{ℕ, List, ◌<◌, length, map, take, slice_index_or}
use Rattle.region_pool.specs.Clauses.{IsLiteral}
use Rattle.region_pool.specs.Blocks.{block_at}
use Rattle.region_pool.specs.Refutation.{IsOpen, IsUnit}
use Rattle.sat_core.specs.Quiet.{IsClosed}
use Rattle.sat_core.specs.declared.trail.Step.{Step}
use Rattle.sat_core.specs.declared.trail.Cause.{Cause}
use Rattle.sat_core.specs.declared.trail.Cause.TheVariants.{Decision, Clause}

-- the literals that the steps made true, in order
abbrev pub literals_of_steps : List Step → List ℕ
literals_of_steps steps = map (λ step. step.literal) steps

-- the step with this number
abbrev pub step_at : List Step → ℕ → Step
step_at steps at = slice_index_or steps at (record { literal = 0; cause = Decision })

-- P holds of each step, with the literals that were true before it
abbrev pub EachStep : (List ℕ → Step → Type 0) → List Step → Type 0
EachStep P steps = (at : ℕ) → at < length steps → P (literals_of_steps (take at steps)) (step_at steps at)

-- a literal of the variables, which was neither true nor false
abbrev pub Fits : ℕ → List ℕ → Step → Type 0
Fits variables before step = IsLiteral variables step.literal × IsOpen before step.literal

-- a decision was made where propagation was complete; a forced literal was the only one of its clause that was not false, and open
abbrev pub CauseHolds : List (List ℕ) → List ℕ → ℕ → Cause → Type 0
CauseHolds clauses before literal Decision = IsClosed clauses before
CauseHolds clauses before literal (Clause number) = (number < length clauses) × IsUnit before (block_at clauses number) literal

-- the step had its cause, under the literals that were true before it
abbrev pub IsCaused : List (List ℕ) → List ℕ → Step → Type 0
IsCaused clauses before step = CauseHolds clauses before step.literal step.cause

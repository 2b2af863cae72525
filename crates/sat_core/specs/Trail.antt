-- What is seen of a trail, and what it keeps.
use Rattle.std.specs.Prelude.{◌≡◌, ◌<◌, ◌+◌, ◌*◌, ◌≤◌, ℕ, List, length, slice_index}
use Rattle.sat_core.specs.declared.trail.Step.{Step}
use Rattle.sat_core.specs.Steps.{EachStep, Fits, step_at}

-- the steps so far, of literals of so many variables
pub record Steps : Type 0 where
  pub variables : ℕ
  pub steps : List Step

-- the place of a literal is one more than the number of its step, and 0 where no step has made it true
pub record IsPlaced (variables : ℕ) (places : List ℕ) (steps : List Step) : Type 0 where
  pub size : length places ≡ 2 * variables
  pub inside : (literal : ℕ) → 0 < slice_index places literal → slice_index places literal ≤ length steps
  pub here : (at : ℕ) → at < length steps → slice_index places (step_at steps at).literal ≡ at + 1
  pub literal_there : (literal at : ℕ) → slice_index places literal ≡ at + 1 → (step_at steps at).literal ≡ literal
  pub fit : EachStep (Fits variables) steps

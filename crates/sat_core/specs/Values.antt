-- The values that a trail gives to the variables.
use Rattle.std.specs.Prelude.{◌≡◌, ◌*◌, ◌<◌, ◌↔◌, ℕ, Bool, true, false, List, length, slice_index_or, Contains}
use Rattle.sat_core.specs.Steps.{literals_of_steps}
use Rattle.sat_core.specs.Trail.{Steps}

-- a variable is true exactly where a step made it so
abbrev pub IsValued : Steps → List Bool → ℕ → Type 0
IsValued trail values count = (variable : ℕ) → variable < count
    → ((slice_index_or values variable false ≡ true) ↔ Contains (literals_of_steps trail.steps) (2 * variable))

pub record ValuesAre (trail : Steps) (values : List Bool) : Type 0 where
  pub long : length values ≡ trail.variables
  pub said : IsValued trail values trail.variables

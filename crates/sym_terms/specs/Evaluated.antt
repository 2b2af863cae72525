-- A list whose items take their values from those of earlier items.
use Rattle.std.specs.Prelude.{ℕ, List, [], ◌∷◌, ◌+◌, ◌==◌, if◌then◌else◌}

-- the values with one more, at this number
abbrev pub with_entry : {V : Type 0} → (ℕ → V) → ℕ → V → ℕ → V
with_entry values at v index = if index == at then v else values index

-- the values of all items, of which the first has this number: each item's value is the step's at the values before it
unfoldable pub evaluated : {X V : Type 0} → ((ℕ → V) → X → V) → (ℕ → V) → ℕ → List X → ℕ → V
evaluated step values at [] = values
evaluated step values at (x ∷ xs) = evaluated step (with_entry values at (step values x)) (at + 1) xs

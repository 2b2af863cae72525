-- When unit propagation has nothing to do at a clause.
use Rattle.std.specs.Prelude.{ℕ, List, All}
use Rattle.region_pool.specs.Refutation.{IsFalsified, IsUnit}

-- the clause has a literal that is not false, and forces none: one is true, or two are open
abbrev pub IsQuiet : List ℕ → List ℕ → Type 0
IsQuiet assigned clause = (¬ IsFalsified assigned clause) × ((literal : ℕ) → ¬ IsUnit assigned clause literal)

-- propagation is complete
abbrev pub IsClosed : List (List ℕ) → List ℕ → Type 0
IsClosed clauses assigned = All (IsQuiet assigned) clauses

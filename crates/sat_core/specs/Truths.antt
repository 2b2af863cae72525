-- What a literal is where some literals are true.
use Rattle.std.specs.Prelude.{ℕ, List, Contains}
use Rattle.region_pool.specs.Refutation.{IsFalse, IsOpen}
use Rattle.sat_core.specs.declared.trail.Truth.{Truth}
use Rattle.sat_core.specs.declared.trail.Truth.TheVariants.{True, False, Open}

-- true and not false, false and not true, or neither
abbrev pub TruthIs : List ℕ → ℕ → Truth → Type 0
TruthIs assigned literal True = Contains assigned literal × (¬ IsFalse assigned literal)
TruthIs assigned literal False = IsFalse assigned literal × (¬ Contains assigned literal)
TruthIs assigned literal Open = IsOpen assigned literal

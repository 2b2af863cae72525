-- How far a search is.
use Rattle.std.specs.Prelude.{ℕ, zero, suc, List, [], ◌∷◌, ◌+◌, ◌*◌, ◌^◌}
use Rattle.sat_core.specs.declared.trail.Step.{Step}
use Rattle.sat_core.specs.declared.trail.Cause.{Cause}
use Rattle.sat_core.specs.declared.trail.Cause.TheVariants.{Decision, Clause}

-- a forced literal counts for more than a decision
abbrev pub digit_of : Cause → ℕ
digit_of Decision = 1
digit_of (Clause number) = 2

-- the trail as a number of so many digits in base 3: 1 for a decision, 2 for a forced literal, and 0 for what is not yet there
abbrev pub progress : ℕ → List Step → ℕ
progress digits [] = 0
progress zero (step ∷ steps) = 0
progress (suc digits) (step ∷ steps) = digit_of step.cause * 3 ^ digits + progress digits steps

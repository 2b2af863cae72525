-- Types that are written, taken from so many that may still be written.
use Rattle.std.specs.Prelude.{◌≡◌, ℕ, ◌+◌, ◌<◌, List, length, Option, Some, None}

-- what is left behind them, where there are enough
abbrev pub IsTaken : ℕ → List (Unit {0}) → Option ℕ → Type 0
IsTaken left types None = left < length types
IsTaken left types (Some rest) = rest + length types ≡ left

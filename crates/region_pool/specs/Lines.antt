-- How a log keeps its lines: two regions, of their literals and of their hints.
use Rattle.std.specs.Prelude.{ℕ, List, [], ◌∷◌}
use Rattle.region_pool.specs.Log.{Line}

-- the lines of these literals and hints, place by place
abbrev pub lines_of : List (List ℕ) → List (List ℕ) → List Line
lines_of [] hints = []
lines_of (literals ∷ more) [] = []
lines_of (literals ∷ more) (hints ∷ others) = record { literals = literals; hints = hints } ∷ lines_of more others

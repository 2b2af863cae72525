-- The lines of a log.
use Rattle.std.specs.Prelude.{ℕ, List, [], slice_index_or}

-- a clause, and the numbers of the clauses that it follows by: n is the input clause n, or, from the count of these on, an earlier line
pub record Line : Type 0 where
  pub literals : List ℕ
  pub hints : List ℕ

-- the line with this number
abbrev pub line_at : List Line → ℕ → Line
line_at lines at = slice_index_or lines at (record { literals = []; hints = [] })

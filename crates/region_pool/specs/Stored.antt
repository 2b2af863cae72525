-- What is seen of the words that a region keeps.
use Rattle.std.specs.Prelude.{ℕ, List}

-- the words in order, and how many there is room for
pub record Stored : Type 0 where
  pub words : List ℕ
  pub capacity : ℕ

-- What is seen of a region.
use Rattle.std.specs.Prelude.{ℕ, List, [], slice_index_or, slice_set}

-- the blocks in order, and how many more words are sure to fit, where each block counts one word more than it has
pub record Blocks : Type 0 where
  pub blocks : List (List ℕ)
  pub spare : ℕ

-- the block with this number
abbrev pub block_at : List (List ℕ) → ℕ → List ℕ
block_at blocks number = slice_index_or blocks number []

-- the region with one word changed
abbrev pub with_word : Blocks → ℕ → ℕ → ℕ → Blocks
with_word region number at word =
    record region { blocks = slice_set region.blocks number (slice_set (block_at region.blocks number) at word) }

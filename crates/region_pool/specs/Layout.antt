-- How a region keeps its blocks.
use Rattle.std.specs.Prelude.{ℕ, List, ◌+◌, ◌≤◌, ◌<◌, ◌^◌, length, All, vec_len, vec_capacity}
use Rattle.region_pool.specs.Ends.{blocks_from, Rise}
use Rattle.region_pool.specs.declared.blocks.Region.TheInside.{Inside}

-- the blocks among all words
abbrev pub blocks_of : List ℕ → List ℕ → List (List ℕ)
blocks_of words ends = blocks_from 0 words ends

-- a put of this block fits an empty region
abbrev pub FitsWhole : ℕ → List ℕ → Type 0
FitsWhole whole block = length block < whole

pub record IsLaidOut (r : Inside) : Type 0 where
  pub rise : Rise 0 r.ends.items (length r.words.words)
  pub words_fit : length r.words.words + r.room ≤ r.words.capacity
  pub ends_fit : vec_len r.ends + r.room ≤ vec_capacity r.ends
  pub few : vec_len r.ends + r.room < 2 ^ 60
  pub room_fits : r.room ≤ r.whole
  pub blocks_fit : All (FitsWhole r.whole) (blocks_of r.words.words r.ends.items)
  pub whole_words : r.whole ≤ r.words.capacity
  pub whole_ends : r.whole ≤ vec_capacity r.ends
  pub whole_few : r.whole < 2 ^ 60

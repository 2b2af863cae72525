-- The words of blocks that lie one after another, told by where each block ends.
use Rattle.std.specs.Prelude.{ℕ, List, [], ◌∷◌, ◌-◌, ◌≤◌, ◌≡◌, ◌==◌, if◌then◌else◌, take, drop, slice_index_or}

-- where the block with this number ends
abbrev pub end_of : List ℕ → ℕ → ℕ
end_of ends number = slice_index_or ends number 0

-- where it starts: the first at 0, and each other where the block before it ends
abbrev pub start_of : List ℕ → ℕ → ℕ
start_of ends number = if number == 0 then 0 else end_of ends (number - 1)

-- the blocks that end there, of which the first begins at a start
abbrev pub blocks_from : ℕ → List ℕ → List ℕ → List (List ℕ)
blocks_from start words [] = []
blocks_from start words (end ∷ ends) = take (end - start) (drop start words) ∷ blocks_from end words ends

-- no block ends before it starts, and the last ends at this place
abbrev pub Rise : ℕ → List ℕ → ℕ → Type 0
Rise start [] last = start ≡ last
Rise start (end ∷ ends) last = (start ≤ end) × Rise end ends last

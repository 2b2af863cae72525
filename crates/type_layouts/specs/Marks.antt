-- Marks on the places of a list.
use Rattle.std.specs.Prelude.{◌≡◌, ℕ, ◌+◌, ◌<◌, Bool, true, false, not, List, count_by, get_or, length}

abbrev pub IsMarked : List Bool → ℕ → Type 0
IsMarked marks k = get_or marks k false ≡ true

-- marked, where there is such a place
abbrev pub IsIn : List Bool → ℕ → Type 0
IsIn marks k = k < length marks → IsMarked marks k

-- what a test for a place without a mark says
abbrev pub IsFree : List Bool → ℕ → Bool → Type 0
IsFree marks k true = (k < length marks) × (get_or marks k false ≡ false)
IsFree marks k false = IsIn marks k

-- how many have no mark
abbrev pub unmarked : List Bool → ℕ
unmarked marks = count_by not marks

-- one more is marked, or nothing changed
abbrev pub IsMarking : Bool → List Bool → List Bool → Type 0
IsMarking true old new = unmarked new + 1 ≡ unmarked old
IsMarking false old new = new ≡ old

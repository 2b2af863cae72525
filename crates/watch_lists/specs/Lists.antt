-- What is seen of lists of watches.
use Rattle.std.specs.Prelude.{◌≡◌, ◌-◌, ℕ, List, [], length, take, slice_index_or, slice_set}
use Rattle.watch_lists.specs.declared.lists.Watch.{Watch}

-- the list with this number
abbrev pub list_at : List (List Watch) → ℕ → List Watch
list_at lists number = slice_index_or lists number []

-- the watch at this place
abbrev pub watch_at : List Watch → ℕ → Watch
watch_at list at = slice_index_or list at (record { clause = 0; blocker = 0 })

-- the lists with one list changed
abbrev pub with_list : List (List Watch) → ℕ → List Watch → List (List Watch)
with_list lists number list = slice_set lists number list

-- so many lists, and nothing in them
abbrev pub AreEmpty : ℕ → List (List Watch) → Type 0
AreEmpty count lists = (length lists ≡ count) × ((number : ℕ) → list_at lists number ≡ [])

-- the list without the watch at this place, which the last one takes
abbrev pub swap_removed : List Watch → ℕ → List Watch
swap_removed list at = take (length list - 1) (slice_set list at (watch_at list (length list - 1)))

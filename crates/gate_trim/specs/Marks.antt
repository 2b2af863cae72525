-- Marks at the numbers of things that read each other.
use Rattle.std.specs.Prelude.{◌≡◌, ◌⊎◌, ℕ, Bool, true, false, ◌||◌, List, ◌<◌, ◌≤◌, length, get_or}

-- the marks, and one more at each number that passes the test
pub record AreMarked (old new : List Bool) (test : ℕ → Bool) : Type 0 where
  pub one_each : length new ≡ length old
  pub marks : (k : ℕ) → k < length old → get_or new k false ≡ (get_or old k false || test k)

-- something marked, with a number from `low` on, reads this number; `reads k j` is whether j reads k
pub record HasReader (reads : ℕ → ℕ → Bool) (low : ℕ) (marks : List Bool) (k : ℕ) : Type 0 where
  pub reader : ℕ
  pub above : low ≤ reader
  pub inside : reader < length marks
  pub marked : get_or marks reader false ≡ true
  pub reads_it : reads k reader ≡ true

-- what is marked from `low` on reads what is marked
abbrev pub AreClosed : (ℕ → ℕ → Bool) → ℕ → List Bool → Type 0
AreClosed reads low marks = (k : ℕ) → k < length marks → HasReader reads low marks k → get_or marks k false ≡ true

-- marked are the roots and what is read by something marked from `low` on, and nothing else
pub record AreWanted (roots : ℕ → Bool) (reads : ℕ → ℕ → Bool) (low : ℕ) (marks : List Bool) : Type 0 where
  pub rooted : (k : ℕ) → k < length marks → roots k ≡ true → get_or marks k false ≡ true
  pub closed : AreClosed reads low marks
  pub needed : (k : ℕ) → k < length marks → get_or marks k false ≡ true → (roots k ≡ true) ⊎ HasReader reads low marks k

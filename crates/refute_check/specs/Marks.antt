-- Marks, one for each literal: a literal is true where its mark is the stamp.
use Rattle.std.specs.Prelude.{ℕ, suc, List, [], ◌∷◌, ◌==◌, if◌then◌else◌, ◌↔◌, ◌<◌, ◌≤◌, length, All, Contains}
use Rattle.region_pool.specs.Literals.{negation}

-- the places from a first one on whose mark is the stamp
abbrev pub marked_from : ℕ → ℕ → List ℕ → List ℕ
marked_from stamp first [] = []
marked_from stamp first (mark ∷ marks) =
    if mark == stamp then first ∷ marked_from stamp (suc first) marks else marked_from stamp (suc first) marks

-- the literals that are true
unfoldable pub true_literals : ℕ → List ℕ → List ℕ
true_literals stamp marks = marked_from stamp 0 marks

-- the literal and its negation have marks
abbrev pub HasMarks : List ℕ → ℕ → Type 0
HasMarks marks literal = (literal < length marks) × (negation literal < length marks)

abbrev pub HaveMarks : List ℕ → List ℕ → Type 0
HaveMarks marks literals = All (HasMarks marks) literals

-- no mark is of a later stamp
abbrev pub ArePast : ℕ → List ℕ → Type 0
ArePast stamp marks = All (λ mark. mark ≤ stamp) marks

-- no literal is true under this stamp
abbrev pub AreOld : ℕ → List ℕ → Type 0
AreOld stamp marks = All (λ mark. mark < stamp) marks

-- the two lists have the same members
abbrev pub IsSameSet : List ℕ → List ℕ → Type 0
IsSameSet xs ys = (x : ℕ) → Contains xs x ↔ Contains ys x

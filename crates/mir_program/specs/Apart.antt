-- Lists without repetition.
use Rattle.std.specs.Prelude.{◌≡◌, ◌<◌, ◌^◌, Bool, false, List, [], ◌∷◌, length}
use Rattle.std.specs.List.{list_any}

-- no two items are alike
abbrev pub AreApart : {X : Type 0} → (X → X → Bool) → List X → Type 0
AreApart alike [] = Unit {0}
AreApart alike (x ∷ xs) = (list_any (alike x) xs ≡ false) × AreApart alike xs

-- fewer than 2^32, so that a place in the list is a number of 32 bits
pub record IsCountable {X : Type 0} (xs : List X) : Type 0 where
  pub counted : length xs < 2 ^ 32

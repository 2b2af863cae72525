-- How the items of a list are found by their names or numbers.
use Rattle.std.specs.Prelude.{◌≡◌, ◌==◌, ℕ, cond, List, Option, Some}
use Rattle.std.specs.List.{position_from}
use Rattle.type_rules.specs.Lookup.{is_name}

-- the place of the first item of this name
abbrev pub place_named : {T : Type 0} → (T → Option (List ℕ)) → List ℕ → List T → Option ℕ
place_named name_of name items = position_from (λ x. is_name name (name_of x)) 0 items

-- the place of the first item of this number
abbrev pub place_numbered : {T : Type 0} → (T → ℕ) → ℕ → List T → Option ℕ
place_numbered number_of number items = position_from (λ x. number_of x == number) 0 items

-- each name finds the place of the first item of the list that has it
pub record FindsNames {T : Type 0} (name_of : T → Option (List ℕ)) (items : List T) (found : List ℕ → Option ℕ) : Type 0 where
  pub finds : (name : List ℕ) → found name ≡ place_named name_of name items

-- each number finds the place of the first item of the list that has it
pub record FindsNumbers {T : Type 0} (number_of : T → ℕ) (items : List T) (found : ℕ → Option ℕ) : Type 0 where
  pub finds : (number : ℕ) → found number ≡ place_numbered number_of number items

-- the name, where there is one, finds the place, and each other name what it found before
pub record FindsAlso (own : Option (List ℕ)) (place : ℕ) (old new : List ℕ → Option ℕ) : Type 0 where
  pub finds : (name : List ℕ) → new name ≡ cond (is_name name own) (Some place) (old name)

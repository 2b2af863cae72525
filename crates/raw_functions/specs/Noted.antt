-- How names that stand twice are found: the names so far, and where the earliest starts that stood before.
use Rattle.std.specs.Prelude.{ℕ, if◌then◌else◌, List, [], ◌∷◌, ◌++◌, Option, Some, None}
use Rattle.std.specs.Borrow.{Bor}
use Rattle.raw_functions.specs.Doubles.{Spot, is_among, earlier}

pub record Noted : Type 0 where
  pub names : List (List ℕ)
  pub second : Option ℕ

abbrev pub none_noted : Noted
none_noted = record { names = []; second = None }

abbrev pub noted : Noted → Spot → Noted
noted n s = if is_among n.names s.0 then record { names = n.names; second = earlier n.second (Some s.1) } else record { names = n.names ++ s.0 ∷ []; second = n.second }

abbrev pub all_noted : Noted → List Spot → Noted
all_noted n [] = n
all_noted n (s ∷ spots) = all_noted (noted n s) spots

-- names without references
abbrev pub names_now : List (Bor (List ℕ)) → List (List ℕ)
names_now [] = []
names_now (n ∷ ns) = n.now ∷ names_now ns

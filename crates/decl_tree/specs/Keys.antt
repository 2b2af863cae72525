-- What the keys of a table hold.
use Rattle.std.specs.Prelude.{ℕ, Bool, List, [], ◌∷◌, if◌then◌else◌, Option, Some, None, Result, Ok, ⊤}
use Rattle.std.specs.Borrow.{Bor}
use Rattle.std.specs.List.{list_any}
use Rattle.std.specs.Str.{bytes_eq}
use Rattle.toml.specs.Data.{Data, table, Members, no_members, member, get}
use Rattle.decl_tree.specs.declared.fault.DeclKind.TheVariants as kind
use Rattle.decl_tree.specs.declared.fault.KeyFault.{KeyFault}
use Rattle.decl_tree.specs.Faults.{here, under, key_step, and_then}

-- texts without references
abbrev pub texts_now : List (Bor (List ℕ)) → List (List ℕ)
texts_now [] = []
texts_now (t ∷ ts) = t.now ∷ texts_now ts

abbrev pub is_among : List (List ℕ) → List ℕ → Bool
is_among keys key = list_any (bytes_eq key) keys

-- the first key that is none of these; the keys of a table ascend by their bytes
abbrev pub first_other : List (List ℕ) → Members → Option (List ℕ)
first_other keys no_members = None
first_other keys (member key d ms) = if is_among keys key then first_other keys ms else Some key

abbrev pub no_other : Option (List ℕ) → Result ⊤ KeyFault
no_other None = Ok tt
no_other (Some key) = under (key_step key) (here kind.UnknownKey)

-- a table that has no key but these
abbrev pub only_keys : List (List ℕ) → Data → Result ⊤ KeyFault
only_keys keys (table ms) = no_other (first_other keys ms)
only_keys keys _ = here kind.WrongKind

module _ {A : Type 0} where
  abbrev pub held : (Data → Result A KeyFault) → Option Data → Result A KeyFault
  held one None = here kind.MissingKey
  held one (Some d) = one d

  -- what a key holds that must be there
  abbrev pub needed : List ℕ → (Data → Result A KeyFault) → Data → Result A KeyFault
  needed key one d = under (key_step key) (held one (get key d))

  abbrev pub held_perhaps : (Data → Result A KeyFault) → Option Data → Result (Option A) KeyFault
  held_perhaps one None = Ok None
  held_perhaps one (Some d) = and_then (one d) (λ x. Ok (Some x))

  -- what a key holds, where it is there
  abbrev pub perhaps : List ℕ → (Data → Result A KeyFault) → Data → Result (Option A) KeyFault
  perhaps key one d = under (key_step key) (held_perhaps one (get key d))

  abbrev pub held_or : A → (Data → Result A KeyFault) → Option Data → Result A KeyFault
  held_or other one None = Ok other
  held_or other one (Some d) = one d

  -- what a key holds, else a default
  abbrev pub defaulted : A → List ℕ → (Data → Result A KeyFault) → Data → Result A KeyFault
  defaulted other key one d = under (key_step key) (held_or other one (get key d))

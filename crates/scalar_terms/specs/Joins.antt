-- What is known by terms of all points that runs still come to, by the numbers of their blocks.
use Rattle.std.specs.Prelude.{◌≡◌, ◌≢◌, ℕ, true, false, List, Option, Some, None, length, slice_index_or}
use Rattle.mir_ir.specs.declared.tree.Function.{Function}
use Rattle.sym_terms.specs.declared.term.Term.{Term}
use Rattle.scalar_runs.specs.Values.{Values}
use Rattle.value_terms.specs.declared.slots.Slot.{Slot}
use Rattle.value_terms.specs.Made.{Grown, holds}
use Rattle.value_terms.specs.Slots.{AreHeld}
use Rattle.scalar_terms.specs.declared.ways.Way.{Way}
use Rattle.scalar_terms.specs.Places.{Place, Before, Done, Spot, Here, There}
use Rattle.scalar_terms.specs.Ways.{IsWay}

-- the way to the block with this number, where there is one
abbrev pub way_at : List (Option Way) → ℕ → Option Way
way_at ways n = slice_index_or ways n None

-- each way is made of terms that are there
abbrev pub AreWays : Function → List Term → List (Option Way) → Type 0
AreWays f terms ways = (n : ℕ) (way : Way) → way_at ways n ≡ Some way → IsWay f terms way

-- no run comes to any of the points
abbrev pub AreQuiet : List Term → (ℕ → ℕ) → List (Option Way) → Type 0
AreQuiet terms inputs ways = (n : ℕ) (way : Way) → way_at ways n ≡ Some way → holds terms inputs way.guard.0 ≡ false

-- the run comes to this block with these values, and to no other
pub record ComesAt (terms : List Term) (inputs : ℕ → ℕ) (ways : List (Option Way)) (target : ℕ) (values : Values) : Type 0 where
  pub way : Way
  pub at : way_at ways target ≡ Some way
  pub guard : holds terms inputs way.guard.0 ≡ true
  pub held : AreHeld terms inputs way.slots.items values
  pub others : (n : ℕ) (other : Way) → n ≢ target → way_at ways n ≡ Some other → holds terms inputs other.guard.0 ≡ false

-- the ways are where the run stands: the run comes to one of them, or has ended
abbrev pub WaysAre : List Term → (ℕ → ℕ) → List (Option Way) → Place → Type 0
WaysAre terms inputs ways (Before target values) = ComesAt terms inputs ways target values
WaysAre terms inputs ways (Done e) = AreQuiet terms inputs ways

-- the same within a block, which the run still passes or has left
abbrev pub WaysIn : List Term → (ℕ → ℕ) → List (Option Way) → Spot → Type 0
WaysIn terms inputs ways (Here values) = AreQuiet terms inputs ways
WaysIn terms inputs ways (There p) = WaysAre terms inputs ways p

-- a way for what was there, if anything was, and for a guard and slots more
pub record IsEntry (f : Function) (old new : List Term) (was : Option Way) (guard : ℕ) (slots : List Slot) (way : Way) : Type 0 where
  pub grown : Grown old new
  pub is_way : IsWay f new way
  pub first : (inputs : ℕ → ℕ) (v : Values) → holds old inputs guard ≡ true → AreHeld old inputs slots v → (holds new inputs way.guard.0 ≡ true) × AreHeld new inputs way.slots.items v
  pub second : (inputs : ℕ → ℕ) (v : Values) (x : Way) → was ≡ Some x → holds old inputs guard ≡ false → holds old inputs x.guard.0 ≡ true → AreHeld old inputs x.slots.items v → (holds new inputs way.guard.0 ≡ true) × AreHeld new inputs way.slots.items v
  pub neither : (inputs : ℕ → ℕ) → holds old inputs guard ≡ false → ((x : Way) → was ≡ Some x → holds old inputs x.guard.0 ≡ false) → holds new inputs way.guard.0 ≡ false

-- a guard and slots come to the block with this number
pub record IsJoined (f : Function) (old new : List Term) (ways joined : List (Option Way)) (target guard : ℕ) (slots : List Slot) : Type 0 where
  pub grown : Grown old new
  pub one_each : length joined ≡ length ways
  pub are : AreWays f new joined
  pub comes : (inputs : ℕ → ℕ) (v : Values) → holds old inputs guard ≡ true → AreQuiet old inputs ways → AreHeld old inputs slots v → WaysAre new inputs joined (Before target v)
  pub stays : (inputs : ℕ → ℕ) (p : Place) → holds old inputs guard ≡ false → WaysAre old inputs ways p → WaysAre new inputs joined p

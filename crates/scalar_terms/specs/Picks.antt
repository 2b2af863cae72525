-- Slots that are picked from two lists by a test.
use Rattle.std.specs.Prelude.{◌≡◌, ◌<◌, ℕ, true, false, List, [], ◌∷◌, ◌++◌, length}
use Rattle.mir_ir.specs.declared.tree.Function.{Function}
use Rattle.sym_terms.specs.declared.term.Term.{Term}
use Rattle.sym_terms.specs.Terms.{value, width_of}
use Rattle.scalar_runs.specs.Values.{Values}
use Rattle.value_terms.specs.declared.slots.Slot.{Slot}
use Rattle.value_terms.specs.Made.{Grown, IsBit, holds}
use Rattle.value_terms.specs.Slots.{AreHeld}
use Rattle.scalar_terms.specs.declared.ways.Way.{Way}
use Rattle.scalar_terms.specs.Ways.{IsWay}

-- two slots of one width
pub record IsPair (terms : List Term) (a b : Slot) : Type 0 where
  pub a_set : IsBit terms a.set.0
  pub b_set : IsBit terms b.set.0
  pub a_inside : a.word.0 < length terms
  pub b_inside : b.word.0 < length terms
  pub widths : width_of terms b.word.0 ≡ width_of terms a.word.0

-- two lists of as many slots, whose widths agree one by one
abbrev pub ArePairs : List Term → List Slot → List Slot → Type 0
ArePairs terms [] [] = Unit {0}
ArePairs terms (a ∷ xs) (b ∷ ys) = IsPair terms a b × ArePairs terms xs ys
ArePairs terms [] (b ∷ ys) = ⊥
ArePairs terms (a ∷ xs) [] = ⊥

-- the slot is the first where the test is 1, else the second
pub record IsPicked (terms : List Term) (test : ℕ) (a b s : Slot) : Type 0 where
  pub set : IsBit terms s.set.0
  pub inside : s.word.0 < length terms
  pub width_is : width_of terms s.word.0 ≡ width_of terms a.word.0
  pub first_set : (inputs : ℕ → ℕ) → holds terms inputs test ≡ true → holds terms inputs s.set.0 ≡ holds terms inputs a.set.0
  pub first_word : (inputs : ℕ → ℕ) → holds terms inputs test ≡ true → value terms inputs s.word.0 ≡ value terms inputs a.word.0
  pub second_set : (inputs : ℕ → ℕ) → holds terms inputs test ≡ false → holds terms inputs s.set.0 ≡ holds terms inputs b.set.0
  pub second_word : (inputs : ℕ → ℕ) → holds terms inputs test ≡ false → value terms inputs s.word.0 ≡ value terms inputs b.word.0

-- each slot of the last list is picked from those at its place
abbrev pub EachPicked : List Term → ℕ → List Slot → List Slot → List Slot → Type 0
EachPicked terms test [] [] [] = Unit {0}
EachPicked terms test (a ∷ xs) (b ∷ ys) (s ∷ ss) = IsPicked terms test a b s × EachPicked terms test xs ys ss
EachPicked terms test _ _ _ = ⊥

-- behind the slots that were there come those that are picked
pub record ArePicked (old new : List Term) (test : ℕ) (xs ys before behind : List Slot) : Type 0 where
  pub grown : Grown old new
  pub more : List Slot
  pub all : behind ≡ before ++ more
  pub each : EachPicked new test xs ys more

-- two ways to one point xs one
pub record IsMerged (f : Function) (old new : List Term) (guard : ℕ) (slots : List Slot) (way merged : Way) : Type 0 where
  pub grown : Grown old new
  pub is_way : IsWay f new merged
  pub first : (inputs : ℕ → ℕ) (v : Values) → holds old inputs guard ≡ true → AreHeld old inputs slots v → (holds new inputs merged.guard.0 ≡ true) × AreHeld new inputs merged.slots.items v
  pub second : (inputs : ℕ → ℕ) (v : Values) → holds old inputs guard ≡ false → holds old inputs way.guard.0 ≡ true → AreHeld old inputs way.slots.items v → (holds new inputs merged.guard.0 ≡ true) × AreHeld new inputs merged.slots.items v
  pub neither : (inputs : ℕ → ℕ) → holds old inputs guard ≡ false → holds old inputs way.guard.0 ≡ false → holds new inputs merged.guard.0 ≡ false

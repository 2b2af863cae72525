-- What is known by terms before the first step.
use Rattle.std.specs.Prelude.{◌≡◌, ℕ, true, false, List, Some, length, slice_get}
use Rattle.mir_ir.specs.declared.tree.Function.{Function}
use Rattle.sym_terms.specs.declared.term.Term.{Term}
use Rattle.scalar_runs.specs.Look.{local_kind}
use Rattle.value_terms.specs.declared.slots.Slot.{Slot}
use Rattle.value_terms.specs.Made.{Grown, holds}
use Rattle.value_terms.specs.Slots.{IsSlot, slot_width}
use Rattle.scalar_terms.specs.declared.ways.Way.{Way}
use Rattle.scalar_terms.specs.Ways.{IsWay}

-- a local of so many bits that was never stored to
pub record IsUnset (old new : List Term) (width : ℕ) (slot : Slot) : Type 0 where
  pub grown : Grown old new
  pub kept : IsSlot new width slot
  pub unset : (inputs : ℕ → ℕ) → holds new inputs slot.set.0 ≡ false

-- the locals with numbers below this one were never stored to
pub record AreUnset (f : Function) (old new : List Term) (slots : List Slot) (count : ℕ) : Type 0 where
  pub grown : Grown old new
  pub one_each : length slots ≡ count
  pub each : (n : ℕ) (slot : Slot) → slice_get slots n ≡ Some slot → IsSlot new (slot_width (local_kind f n)) slot
  pub unset : (n : ℕ) (slot : Slot) → slice_get slots n ≡ Some slot → (inputs : ℕ → ℕ) → holds new inputs slot.set.0 ≡ false

-- every run comes by this way, with nothing in the locals
pub record IsStart (f : Function) (old new : List Term) (way : Way) : Type 0 where
  pub grown : Grown old new
  pub is_way : IsWay f new way
  pub always : (inputs : ℕ → ℕ) → holds new inputs way.guard.0 ≡ true
  pub unset : (n : ℕ) (slot : Slot) → slice_get way.slots.items n ≡ Some slot → (inputs : ℕ → ℕ) → holds new inputs slot.set.0 ≡ false

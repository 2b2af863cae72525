-- What the locals of a function are by terms: whether each holds a value, and which.
use Rattle.std.specs.Prelude.{◌≡◌, ◌<◌, ℕ, true, false, List, length, Option, Some, None, Result, Ok, Err, slice_get, slice_index_or}
use Rattle.word_bits.specs.declared.word.Word.{Word}
use Rattle.vk_core.specs.declared.check.CheckClass.{CheckClass}
use Rattle.vk_core.specs.declared.check.CheckClass.TheVariants as class
use Rattle.mir_ir.specs.declared.tree.Function.{Function}
use Rattle.sym_terms.specs.declared.term.Term.{Term}
use Rattle.sym_terms.specs.Terms.{value, width_of}
use Rattle.scalar_runs.specs.declared.kinds.ValueKind.{ValueKind}
use Rattle.scalar_runs.specs.Kinds.{width_of_kind}
use Rattle.scalar_runs.specs.Look.{local_kind, locals_end}
use Rattle.scalar_runs.specs.Values.{Values}
use Rattle.value_terms.specs.declared.slots.Slot.{Slot}
use Rattle.value_terms.specs.Made.{Grown, IsBit, holds}

-- the width of what is kept for a local of this kind
abbrev pub slot_width : Option ValueKind → ℕ
slot_width (Some k) = width_of_kind k
slot_width None = 1

pub record IsSlot (terms : List Term) (width : ℕ) (slot : Slot) : Type 0 where
  pub set : IsBit terms slot.set.0
  pub inside : slot.word.0 < length terms
  pub width_is : width_of terms slot.word.0 ≡ width

-- a slot for each local
pub record AreSlots (f : Function) (terms : List Term) (slots : List Slot) : Type 0 where
  pub one_each : length slots ≡ locals_end f.locals
  pub each : (n : ℕ) (slot : Slot) → slice_get slots n ≡ Some slot → IsSlot terms (slot_width (local_kind f n)) slot

-- what the slot says of a local that holds this
abbrev pub SlotIs : List Term → (ℕ → ℕ) → Slot → Option Word → Type 0
SlotIs terms inputs slot (Some w) = (holds terms inputs slot.set.0 ≡ true) × (value terms inputs slot.word.0 ≡ w)
SlotIs terms inputs slot None = holds terms inputs slot.set.0 ≡ false

-- under these inputs the locals hold this
pub record AreHeld (terms : List Term) (inputs : ℕ → ℕ) (slots : List Slot) (values : Values) : Type 0 where
  pub one_each : length values ≡ length slots
  pub each : (n : ℕ) (slot : Slot) → slice_get slots n ≡ Some slot → SlotIs terms inputs slot (slice_index_or values n None)

-- what the slot says of a read: it gives a word, or the fault of a read of what was never stored
abbrev pub ReadIs : List Term → (ℕ → ℕ) → Slot → Result Word CheckClass → Type 0
ReadIs terms inputs slot (Ok w) = (holds terms inputs slot.set.0 ≡ true) × (value terms inputs slot.word.0 ≡ w)
ReadIs terms inputs slot (Err c) = (c ≡ class.Uninit) × (holds terms inputs slot.set.0 ≡ false)

pub record IsRead (f : Function) (old new : List Term) (slots : List Slot) (kind : Option ValueKind) (read : Values → Result Word CheckClass) (slot : Slot) : Type 0 where
  pub grown : Grown old new
  pub kept : IsSlot new (slot_width kind) slot
  pub is : (inputs : ℕ → ℕ) (values : Values) → AreHeld old inputs slots values → ReadIs new inputs slot (read values)

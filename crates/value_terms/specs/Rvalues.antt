-- What rvalues are by terms.
use Rattle.std.specs.Prelude.{◌≡◌, ◌<◌, ◌⊎◌, ℕ, true, false, List, length, Option, Result, Ok, Err}
use Rattle.word_bits.specs.declared.word.Word.{Word}
use Rattle.vk_core.specs.declared.check.CheckClass.{CheckClass}
use Rattle.vk_core.specs.declared.check.CheckClass.TheVariants as class
use Rattle.mir_ir.specs.declared.tree.Function.{Function}
use Rattle.sym_terms.specs.declared.term.Term.{Term}
use Rattle.sym_terms.specs.Terms.{value, width_of}
use Rattle.scalar_runs.specs.declared.kinds.ValueKind.{ValueKind}
use Rattle.scalar_runs.specs.Values.{Values}
use Rattle.value_terms.specs.declared.slots.Slot.{Slot}
use Rattle.value_terms.specs.declared.rvalues.ValueTerms.{ValueTerms}
use Rattle.value_terms.specs.Made.{Grown, IsBit, holds}
use Rattle.value_terms.specs.Slots.{AreHeld, slot_width}

-- what the terms say of a rvalue: a word, the fault of a read, or that of a division
abbrev pub RvalueIs : List Term → (ℕ → ℕ) → ValueTerms → Result Word CheckClass → Type 0
RvalueIs terms inputs t (Ok w) = (holds terms inputs t.set.0 ≡ true) × (holds terms inputs t.lawful.0 ≡ true) × (value terms inputs t.word.0 ≡ w)
RvalueIs terms inputs t (Err c) =
    ((c ≡ class.Uninit) × (holds terms inputs t.set.0 ≡ false)) ⊎ ((c ≡ class.Division) × (holds terms inputs t.set.0 ≡ true) × (holds terms inputs t.lawful.0 ≡ false))

pub record IsRvalue (f : Function) (old new : List Term) (slots : List Slot) (kind : Option ValueKind) (read : Values → Result Word CheckClass) (t : ValueTerms) : Type 0 where
  pub grown : Grown old new
  pub set : IsBit new t.set.0
  pub lawful : IsBit new t.lawful.0
  pub inside : t.word.0 < length new
  pub width_is : width_of new t.word.0 ≡ slot_width kind
  pub is : (inputs : ℕ → ℕ) (values : Values) → AreHeld old inputs slots values → RvalueIs new inputs t (read values)

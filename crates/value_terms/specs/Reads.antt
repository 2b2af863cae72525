-- A slot of a word that is known.
use Rattle.std.specs.Prelude.{◌≡◌, ℕ, true, List}
use Rattle.word_bits.specs.declared.word.Word.{Word}
use Rattle.sym_terms.specs.declared.term.Term.{Term}
use Rattle.sym_terms.specs.Terms.{value}
use Rattle.value_terms.specs.declared.slots.Slot.{Slot}
use Rattle.value_terms.specs.Made.{Grown, holds}
use Rattle.value_terms.specs.Slots.{IsSlot}

pub record IsKnownSlot (old new : List Term) (w : Word) (slot : Slot) : Type 0 where
  pub grown : Grown old new
  pub kept : IsSlot new w.width slot
  pub set_is : (inputs : ℕ → ℕ) → holds new inputs slot.set.0 ≡ true
  pub word_is : (inputs : ℕ → ℕ) → value new inputs slot.word.0 ≡ w

-- Terms that were added, by what they are worth.
use Rattle.std.specs.Prelude.{◌≡◌, ◌≢◌, ◌<◌, ℕ, Bool, List, length, ◌==◌}
use Rattle.word_bits.specs.declared.word.Word.{Word}
use Rattle.word_bits.specs.Words.{word}
use Rattle.sym_terms.specs.declared.term.Term.{Term}
use Rattle.sym_terms.specs.Terms.{HasOneWidth, Keeps, value, width_of}

-- the term, which has one bit, is 1
abbrev pub holds : List Term → (ℕ → ℕ) → ℕ → Bool
holds terms inputs id = (value terms inputs id).value == 1

-- no term is the input with this number, which could still have any width
abbrev pub IsFree : List Term → ℕ → Type 0
IsFree terms number = (width : ℕ) → HasOneWidth terms number width

-- earlier terms stay, and no input came
pub record Grown (old new : List Term) : Type 0 where
  pub keeps : Keeps old new
  pub free : (number : ℕ) → IsFree old number → IsFree new number

-- a term that is there, with one bit
pub record IsBit (terms : List Term) (id : ℕ) : Type 0 where
  pub inside : id < length terms
  pub width_is : width_of terms id ≡ 1

-- the term has this width, and this value under each assignment of the inputs
pub record IsMade (old new : List Term) (id width : ℕ) (v : (ℕ → ℕ) → Word) : Type 0 where
  pub grown : Grown old new
  pub inside : id < length new
  pub width_is : width_of new id ≡ width
  pub value_is : (inputs : ℕ → ℕ) → value new inputs id ≡ v inputs

-- the term has one bit, and this says whether it is 1
pub record IsTest (old new : List Term) (id : ℕ) (t : (ℕ → ℕ) → Bool) : Type 0 where
  pub grown : Grown old new
  pub bit : IsBit new id
  pub holds_is : (inputs : ℕ → ℕ) → holds new inputs id ≡ t inputs

-- the term is the input with this number, and no other input came
pub record IsInput (old new : List Term) (id number width : ℕ) : Type 0 where
  pub keeps : Keeps old new
  pub free : (other : ℕ) → other ≢ number → IsFree old other → IsFree new other
  pub inside : id < length new
  pub width_is : width_of new id ≡ width
  pub value_is : (inputs : ℕ → ℕ) → value new inputs id ≡ word width (inputs number)

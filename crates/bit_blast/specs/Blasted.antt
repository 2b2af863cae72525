-- Literals that are the value of a term.
use Rattle.std.specs.Prelude.{◌≡◌, ◌≢◌, ℕ, Bool, true, false, List, ◌+◌, ◌^◌, ◌<◌, length, slice_get, get_or, map, [], Some, All, AllPairs}
use Rattle.word_bits.specs.declared.word.Word.{Word}
use Rattle.word_bits.specs.Words.{word_of}
use Rattle.word_bits.specs.Signs.{with_sign}
use Rattle.sym_terms.specs.declared.term.Term.{Term}
use Rattle.sym_terms.specs.declared.TermId.{TermId}
use Rattle.sym_terms.specs.Terms.{width_of, value as term_at}
use Rattle.region_pool.specs.Blocks.{block_at}
use Rattle.bit_gates.specs.declared.gate.Gate.{Gate}
use Rattle.bit_gates.specs.declared.gate.Gate.TheVariants.{True}
use Rattle.bit_gates.specs.declared.gates.InputBit.{InputBit}
use Rattle.bit_gates.specs.declared.gates.Gates.{Gates}
use Rattle.bit_gates.specs.Values.{AreInOrder}
use Rattle.bit_gates.specs.Circuit.{Circuit, value}
use Rattle.bit_gates.specs.Made.{Extends, AreIn, number}
use Rattle.gate_trim.specs.Reading.{IsEachRead}
use Rattle.bit_blast.specs.Reached.{is_part}
use Rattle.bit_blast.specs.Inputs.{AreAtPlaces, input_bits}

-- the word that the bits of a list of literals write
abbrev pub word_at : (ℕ → Bool) → List ℕ → Word
word_at v literals = record { width = length literals; value = number v literals }

-- the literals of the new circuit are this word, by the values of the old one
pub record IsMadeWord (old new : Circuit) (literals : List ℕ) (f : (ℕ → Bool) → Word) : Type 0 where
  pub extends : Extends old new
  pub inside : AreIn new literals
  pub word_is : (bits : ℕ → Bool) → word_at (value new bits) literals ≡ f (value old bits)

-- the number of the word that a sign and a magnitude make
abbrev pub signed_number : ℕ → Bool → ℕ → ℕ
signed_number width negative n = (word_of width (with_sign negative n)).value

-- the literals are the term with this number
pub record IsBlasted (c : Circuit) (terms : List Term) (places : List ℕ) (n : ℕ) (literals : List ℕ) : Type 0 where
  pub inside : AreIn c literals
  pub width_is : length literals ≡ width_of terms n
  pub word_is : (bits : (ℕ → ℕ) → ℕ → Bool) → AreAtPlaces bits terms places → (numbers : ℕ → ℕ) → word_at (value c (bits numbers)) literals ≡ term_at terms numbers n

-- the blocks are the first so many terms, of which those that are not reached have no bits
pub record IsTable (c : Circuit) (terms : List Term) (places : List ℕ) (marks : List Bool) (count : ℕ) (blocks : List (List ℕ)) : Type 0 where
  pub one_each : length blocks ≡ count
  pub each : (n : ℕ) → n < count → get_or marks n false ≡ true → IsBlasted c terms places n (block_at blocks n)
  pub none : (n : ℕ) → n < count → get_or marks n false ≡ false → block_at blocks n ≡ []

-- the blocks of the parts of a term are these terms
pub record HaveParts (c : Circuit) (terms : List Term) (places : List ℕ) (n : ℕ) (blocks : List (List ℕ)) : Type 0 where
  pub one_each : length blocks ≡ n
  pub each : (p : ℕ) → p < n → is_part terms p n ≡ true → IsBlasted c terms places p (block_at blocks p)

-- what is known of the literals of a term that is reached, or not
pub record IsReachedWord (old new : Circuit) (terms : List Term) (places : List ℕ) (reached : Bool) (n : ℕ) (literals : List ℕ) : Type 0 where
  pub extends : Extends old new
  pub blasted : reached ≡ true → IsBlasted new terms places n literals
  pub none : reached ≡ false → literals ≡ []

-- the literals of a root have the value of its term, whatever numbers the inputs have
pub record IsRoot (inputs : List InputBit) (gates : List Gate) (terms : List Term) (root : ℕ) (literals : List ℕ) : Type 0 where
  pub inside : AreIn (record { inputs = length inputs; gates = gates }) literals
  pub word_is : (numbers : ℕ → ℕ) → word_at (value (record { inputs = length inputs; gates = gates }) (input_bits inputs numbers)) literals ≡ term_at terms numbers root

-- the words of the roots as lists of literals
abbrev pub lists_of : Gates → List (List ℕ)
lists_of gates = map (λ word. word.items) gates.roots.items

-- gates for the roots: no input bit stands twice, none is a number's bit 128 or above, each gate reads variables before it and is read, and each root is its term
pub record AreGatesOf (terms : List Term) (roots : List TermId) (gates : Gates) : Type 0 where
  pub apart : AllPairs (λ x y. x ≢ y) gates.inputs.items
  pub small : All (λ b. b.bit < 128) gates.inputs.items
  pub first : slice_get gates.gates.items 0 ≡ Some True
  pub in_order : AreInOrder (length gates.inputs.items) gates.gates.items
  pub few : length gates.inputs.items + length gates.gates.items < 2 ^ 60
  pub read : IsEachRead (record { inputs = length gates.inputs.items; gates = gates.gates.items }) (lists_of gates)
  pub one_each : length gates.roots.items ≡ length roots
  pub each : (k : ℕ) (root : TermId) → slice_get roots k ≡ Some root → IsRoot gates.inputs.items gates.gates.items terms root.0 (get_or (lists_of gates) k [])

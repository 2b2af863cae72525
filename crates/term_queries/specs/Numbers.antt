-- The numbers of inputs, by the values of their bits.
use Rattle.std.specs.Prelude.{◌≡◌, ◌<◌, ◌≤◌, ◌==◌, ◌&&◌, ℕ, Bool, true, false, if◌then◌else◌, List, length, get_or}
use Rattle.std.specs.Int.{bit_at}
use Rattle.bit_gates.specs.declared.gates.InputBit.{InputBit}
use Rattle.bit_blast.specs.Inputs.{input_bits, no_bit}

-- the input bits of these numbers have these values
abbrev pub AreNumbers : List InputBit → (ℕ → Bool) → (ℕ → ℕ) → Type 0
AreNumbers inputs values numbers = (place : ℕ) → place < length inputs → input_bits inputs numbers place ≡ values place

-- the bits at places before this one have these values, and those from it on are 0
pub record HaveBits (inputs : List InputBit) (values : ℕ → Bool) (numbers : List ℕ) (place : ℕ) : Type 0 where
  pub done : (q : ℕ) → q < place → q < length inputs → (bit_at (get_or numbers (get_or inputs q no_bit).number 0) (get_or inputs q no_bit).bit == 1) ≡ values q
  pub ahead : (q : ℕ) → place ≤ q → q < length inputs → bit_at (get_or numbers (get_or inputs q no_bit).number 0) (get_or inputs q no_bit).bit ≡ 0

-- one bit of one number is set
abbrev pub IsBitSet : List ℕ → List ℕ → InputBit → Type 0
IsBitSet old new b = (k j : ℕ) → bit_at (get_or new k 0) j ≡ (if k == b.number && j == b.bit then 1 else bit_at (get_or old k 0) j)

-- it is set where this says so
abbrev pub IsBitPut : List ℕ → List ℕ → InputBit → Bool → Type 0
IsBitPut old new b true = IsBitSet old new b
IsBitPut old new b false = new ≡ old

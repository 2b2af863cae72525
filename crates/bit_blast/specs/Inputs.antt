-- Where the bits of inputs stand.
use Rattle.std.specs.Prelude.{◌≡◌, ℕ, Bool, List, [], ◌∷◌, ◌++◌, ◌+◌, ◌/◌, ◌%◌, ◌^◌, ◌<◌, ◌≤◌, ◌==◌, Option, Some, None, length, get_or, slice_get, zero, suc}
use Rattle.sym_terms.specs.declared.term.Term.{Term}
use Rattle.sym_terms.specs.declared.term.Term.TheVariants.{Input}
use Rattle.bit_gates.specs.declared.gates.InputBit.{InputBit}
use Rattle.bit_gates.specs.Made.{AreBitsOf}

-- the number and the width of an input
abbrev pub input_of : Term → Option (ℕ × ℕ)
input_of (Input number width) = Some (number, width)
input_of _ = None

-- the widths of the inputs among the first so many terms, by their numbers
abbrev pub HaveWidths : List Term → ℕ → List ℕ → Type 0
HaveWidths terms count widths = (n number width : ℕ) → n < count → slice_get terms n ≡ Some (Input number width) → get_or widths number 0 ≡ width

-- no input has more than 128 bits
abbrev pub AreFew : List ℕ → Type 0
AreFew widths = (number : ℕ) → get_or widths number 0 ≤ 128

-- the bits of an input, the lowest first
abbrev pub bits_of : ℕ → ℕ → List InputBit
bits_of number zero = []
bits_of number (suc k) = bits_of number k ++ (record { number = number; bit = k }) ∷ []

-- the bits of the inputs with smaller numbers than this one
abbrev pub all_bits : List ℕ → ℕ → List InputBit
all_bits widths zero = []
all_bits widths (suc m) = all_bits widths m ++ bits_of m (get_or widths m 0)

-- the bits of all inputs, and where those of each input begin
pub record ArePlaced (widths : List ℕ) (bits : List InputBit) (places : List ℕ) : Type 0 where
  pub bits_are : bits ≡ all_bits widths (length widths)
  pub one_each : length places ≡ length widths
  pub places_are : (number : ℕ) → number < length widths → get_or places number 0 ≡ length (all_bits widths number)

abbrev pub no_bit : InputBit
no_bit = record { number = 0; bit = 0 }

-- the values of input bits, where the inputs have these numbers
abbrev pub input_bits : List InputBit → (ℕ → ℕ) → ℕ → Bool
input_bits inputs numbers place = numbers (get_or inputs place no_bit).number / 2 ^ (get_or inputs place no_bit).bit % 2 == 1

-- there is room for each input from its place on
abbrev pub HavePlaces : List Term → List ℕ → ℕ → Type 0
HavePlaces terms places count =
    (n number width : ℕ) → slice_get terms n ≡ Some (Input number width) → (number < length places) × (get_or places number 0 + width ≤ count)

-- the bits from the place of each input on are those of its number
abbrev pub AreAtPlaces : ((ℕ → ℕ) → ℕ → Bool) → List Term → List ℕ → Type 0
AreAtPlaces bits terms places =
    (n number width : ℕ) → slice_get terms n ≡ Some (Input number width) → (numbers : ℕ → ℕ) → AreBitsOf (bits numbers) (get_or places number 0) width (numbers number)

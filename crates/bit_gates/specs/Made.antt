-- What a step does that adds gates.
use Rattle.std.specs.Prelude.{◌≡◌, ℕ, Bool, List, [], ◌∷◌, ◌+◌, ◌*◌, ◌^◌, ◌<◌, ◌≤◌, ◌/◌, ◌%◌, ◌==◌, All, length, if◌then◌else◌}
use Rattle.bit_gates.specs.Circuit.{Circuit, size, value}

-- the literals there before keep their values
pub record Extends (old new : Circuit) : Type 0 where
  pub inputs : new.inputs ≡ old.inputs
  pub grown : size old ≤ size new
  pub kept : (bits : ℕ → Bool) (literal : ℕ) → literal < 2 * size old → value new bits literal ≡ value old bits literal

-- the literal of the new circuit has this value, by the values of the old one
pub record IsMade (old new : Circuit) (literal : ℕ) (f : (ℕ → Bool) → Bool) : Type 0 where
  pub extends : Extends old new
  pub inside : literal < 2 * size new
  pub value_is : (bits : ℕ → Bool) → value new bits literal ≡ f (value old bits)

-- 1 for true and 0 for false
abbrev pub bit : Bool → ℕ
bit b = if b then 1 else 0

-- the number that the bits of a list of literals write, the lowest bit first
unfoldable pub number : (ℕ → Bool) → List ℕ → ℕ
number v [] = 0
number v (literal ∷ literals) = bit (v literal) + 2 * number v literals

-- the literals are of variables of the circuit
abbrev pub AreIn : Circuit → List ℕ → Type 0
AreIn c literals = All (λ literal. literal < 2 * size c) literals

-- so many literals of the new circuit write this number, by the values of the old one
pub record IsWordMade (old new : Circuit) (literals : List ℕ) (width : ℕ) (f : (ℕ → Bool) → ℕ) : Type 0 where
  pub extends : Extends old new
  pub inside : AreIn new literals
  pub width_is : length literals ≡ width
  pub number_is : (bits : ℕ → Bool) → number (value new bits) literals ≡ f (value old bits)

-- the literal is of a variable of the circuit, and has this value whatever the input bits are
pub record IsConstant (c : Circuit) (literal : ℕ) (bit : Bool) : Type 0 where
  pub inside : literal < 2 * size c
  pub value_is : (bits : ℕ → Bool) → value c bits literal ≡ bit

-- the two literals write the sum of three bits
pub record IsBitSum (old new : Circuit) (x y carry sum next : ℕ) : Type 0 where
  pub extends : Extends old new
  pub sum_inside : sum < 2 * size new
  pub next_inside : next < 2 * size new
  pub sum_is : (bits : ℕ → Bool) → bit (value new bits sum) + 2 * bit (value new bits next) ≡ bit (value old bits x) + bit (value old bits y) + bit (value old bits carry)

-- the literals, with their carry above, write the sum of two words and a carry
pub record IsSum (old new : Circuit) (xs ys : List ℕ) (carry : ℕ) (sums : List ℕ) (next : ℕ) : Type 0 where
  pub extends : Extends old new
  pub inside : AreIn new sums
  pub next_inside : next < 2 * size new
  pub width_is : length sums ≡ length xs
  pub sum_is : (bits : ℕ → Bool) → number (value new bits) sums + 2 ^ length xs * bit (value new bits next) ≡ number (value old bits) xs + number (value old bits) ys + bit (value old bits carry)

-- the literals write the difference of two words, and the carry above tells that the second is not above the first
pub record IsDifference (old new : Circuit) (xs ys : List ℕ) (differences : List ℕ) (carry : ℕ) : Type 0 where
  pub extends : Extends old new
  pub inside : AreIn new differences
  pub carry_inside : carry < 2 * size new
  pub width_is : length differences ≡ length xs
  pub difference_is : (bits : ℕ → Bool) → number (value new bits) differences + 2 ^ length xs * bit (value new bits carry) + number (value old bits) ys ≡ number (value old bits) xs + 2 ^ length xs

-- the quotient and the remainder of two words, wherever the divisor is not 0
pub record IsDivision (old new : Circuit) (xs ys quotient remainder : List ℕ) : Type 0 where
  pub extends : Extends old new
  pub quotient_inside : AreIn new quotient
  pub remainder_inside : AreIn new remainder
  pub quotient_width : length quotient ≡ length xs
  pub remainder_width : length remainder ≡ length ys
  pub whole : (bits : ℕ → Bool) → 0 < number (value old bits) ys → number (value new bits) quotient * number (value old bits) ys + number (value new bits) remainder ≡ number (value old bits) xs
  pub rest : (bits : ℕ → Bool) → 0 < number (value old bits) ys → number (value new bits) remainder < number (value old bits) ys

-- a division with one more bit x of the dividend below those that were divided
pub record IsNextDivision (old new : Circuit) (x : ℕ) (above rest ys quotient remainder : List ℕ) : Type 0 where
  pub extends : Extends old new
  pub quotient_inside : AreIn new quotient
  pub remainder_inside : AreIn new remainder
  pub quotient_width : length quotient ≡ length above + 1
  pub remainder_width : length remainder ≡ length ys
  pub whole : (bits : ℕ → Bool) → number (value old bits) rest < number (value old bits) ys
      → number (value new bits) quotient * number (value old bits) ys + number (value new bits) remainder ≡ 2 * (number (value old bits) above * number (value old bits) ys + number (value old bits) rest) + bit (value old bits x)
  pub rest_is : (bits : ℕ → Bool) → number (value old bits) rest < number (value old bits) ys → number (value new bits) remainder < number (value old bits) ys

-- the input bits from this one on are the bits of a number, the lowest first
abbrev pub AreBitsOf : (ℕ → Bool) → ℕ → ℕ → ℕ → Type 0
AreBitsOf bits first width n = (k : ℕ) → k < width → bits (first + k) ≡ (n / 2 ^ k % 2 == 1)

-- the literals write the number whose bits stand from this input bit on, cut to the width
pub record IsInputWord (c : Circuit) (literals : List ℕ) (first width : ℕ) : Type 0 where
  pub inside : AreIn c literals
  pub width_is : length literals ≡ width
  pub number_is : (bits : ℕ → Bool) (n : ℕ) → AreBitsOf bits first width n → number (value c bits) literals ≡ n % 2 ^ width

-- the literal has the value of the input bit
pub record IsInputBit (c : Circuit) (literal bit : ℕ) : Type 0 where
  pub inside : literal < 2 * size c
  pub value_is : (bits : ℕ → Bool) → value c bits literal ≡ bits bit

-- Words, and their arithmetic: plain arithmetic on whole numbers, cut to the width. `value_of` reads a word as the
-- whole number that it means, unsigned or in two's complement, and `word_of` cuts a whole number to a width.
use Rattle.std.specs.Prelude.{◌≡◌, ℕ, ◌+◌, ◌-◌, ◌*◌, ◌/◌, ◌%◌, ◌^◌, ◌<◌, ◌≤◌, Bool, true, false, not, ◌&&◌, if◌then◌else◌, ◌==◌, nat_lt, ℤ, pos, negsuc, ◌+ℤ◌, ◌-ℤ◌, ◌*ℤ◌, neg_ℤ, int_lt, int_div, int_rem, bit_and, bit_or, bit_xor}
use Rattle.word_bits.specs.declared.word.Word.{Word}

-- a width of 1 to 128 bits
pub record IsWidth (width : ℕ) : Type 0 where
  pub some_bits : 1 ≤ width
  pub few_bits : width ≤ 128

-- a word of such a width, whose number is below the power of two
pub record IsWord (w : Word) : Type 0 where
  pub some_bits : 1 ≤ w.width
  pub few_bits : w.width ≤ 128
  pub below : w.value < 2 ^ w.width

-- two words of one width
pub record AreWords (a b : Word) : Type 0 where
  pub some_bits : 1 ≤ a.width
  pub few_bits : a.width ≤ 128
  pub one_width : b.width ≡ a.width
  pub first : a.value < 2 ^ a.width
  pub second : b.value < 2 ^ a.width

-- a number cut to a width
abbrev pub word : ℕ → ℕ → Word
word width n = record { width = width; value = n % 2 ^ width }

-- a whole number cut to a width: its remainder by the power of two, which for -(n + 1) is 2 ^ width - 1 - n where n is small
abbrev pub word_of : ℕ → ℤ → Word
word_of width (pos n) = word width n
word_of width (negsuc n) = record { width = width; value = 2 ^ width - 1 - n % 2 ^ width }

-- the number that a word means in two's complement: a value of the upper half means itself less the power of two
abbrev pub signed_value : Word → ℤ
signed_value w = if nat_lt (2 * w.value) (2 ^ w.width) then pos w.value else negsuc (2 ^ w.width - w.value - 1)

-- the number that a word means, with or without a sign
abbrev pub value_of : Bool → Word → ℤ
value_of true w = signed_value w
value_of false w = pos w.value

-- the whole number is one of the width: 0 to 2 ^ width - 1, or with a sign -2 ^ (width - 1) to 2 ^ (width - 1) - 1
abbrev pub fits : Bool → ℕ → ℤ → Bool
fits false width (pos n) = nat_lt n (2 ^ width)
fits false width (negsuc n) = false
fits true width (pos n) = nat_lt n (2 ^ (width - 1))
fits true width (negsuc n) = nat_lt n (2 ^ (width - 1))

abbrev pub added : Word → Word → Word
added a b = word a.width (a.value + b.value)

abbrev pub subtracted : Word → Word → Word
subtracted a b = word_of a.width (pos a.value -ℤ pos b.value)

abbrev pub multiplied : Word → Word → Word
multiplied a b = word a.width (a.value * b.value)

abbrev pub negated : Word → Word
negated a = word_of a.width (neg_ℤ (pos a.value))

-- every bit turned: the word of ones less this one
abbrev pub complement : Word → Word
complement a = record { width = a.width; value = 2 ^ a.width - 1 - a.value }

abbrev pub both_bits : Word → Word → Word
both_bits a b = record { width = a.width; value = bit_and a.value b.value }

abbrev pub either_bit : Word → Word → Word
either_bit a b = record { width = a.width; value = bit_or a.value b.value }

abbrev pub different_bits : Word → Word → Word
different_bits a b = record { width = a.width; value = bit_xor a.value b.value }

-- the divisor is not 0, and with a sign the division is not that of the least value by -1
abbrev pub is_lawful : Word → Word → Bool → Bool
is_lawful a b signed = not (b.value == 0) && not (signed && (a.value == 2 ^ (a.width - 1)) && (b.value == 2 ^ a.width - 1))

-- the quotient, rounded towards 0
abbrev pub quotient : Word → Word → Bool → Word
quotient a b signed = word_of a.width (int_div (value_of signed a) (value_of signed b))

-- the remainder, with the sign of the dividend
abbrev pub remainder : Word → Word → Bool → Word
remainder a b signed = word_of a.width (int_rem (value_of signed a) (value_of signed b))

-- times a power of two; the amount is taken modulo the width of the left operand
abbrev pub shifted_left : Word → Word → Word
shifted_left a by = word a.width (a.value * 2 ^ (by.value % a.width))

-- a whole number over a power of two, rounded down: -(n + 1) becomes -(n / 2 ^ k + 1)
abbrev pub halved : ℤ → ℕ → ℤ
halved (pos n) k = pos (n / 2 ^ k)
halved (negsuc n) k = negsuc (n / 2 ^ k)

-- over a power of two, rounded down, so that a signed number keeps its sign
abbrev pub shifted_right : Word → Word → Bool → Word
shifted_right a by signed = word_of a.width (halved (value_of signed a) (by.value % a.width))

abbrev pub is_less : Word → Word → Bool → Bool
is_less a b signed = int_lt (value_of signed a) (value_of signed b)

-- the sum, the difference, the product of the two numbers is none of the width
abbrev pub is_sum_over : Word → Word → Bool → Bool
is_sum_over a b signed = not (fits signed a.width (value_of signed a +ℤ value_of signed b))

abbrev pub is_difference_over : Word → Word → Bool → Bool
is_difference_over a b signed = not (fits signed a.width (value_of signed a -ℤ value_of signed b))

abbrev pub is_product_over : Word → Word → Bool → Bool
is_product_over a b signed = not (fits signed a.width (value_of signed a *ℤ value_of signed b))

-- extended by the sign of the source, then cut
abbrev pub recast : Word → Bool → ℕ → Word
recast a signed width = word_of width (value_of signed a)

-- The definitions at the edges of their widths, by computation.
use Rattle.std.proofs.Common.{◌≡◌, ℕ, ◌-◌, ◌^◌, refl, true, false}
use Rattle.word_bits.specs.declared.word.Word.{Word}
use Rattle.word_bits.specs.Words.{signed_value, added, subtracted, multiplied, negated, complement, is_lawful, quotient, remainder, shifted_left, shifted_right, is_less, is_sum_over, is_difference_over, is_product_over, recast}
use Rattle.std.specs.Prelude.{negsuc}

abbrev at : ℕ → ℕ → Word
at width value = record { width = width; value = value }

-- the least value by -1 is not lawful with a sign, and is without one
least_by_minus_one : is_lawful (at 8 128) (at 8 255) true ≡ false
least_by_minus_one = refl

least_by_minus_one_unsigned : is_lawful (at 8 128) (at 8 255) false ≡ true
least_by_minus_one_unsigned = refl

least_by_minus_one_of_128 : is_lawful (at 128 (2 ^ 127)) (at 128 (2 ^ 128 - 1)) true ≡ false
least_by_minus_one_of_128 = refl

by_zero : is_lawful (at 8 5) (at 8 0) false ≡ false
by_zero = refl

-- -7 by 2 is -3, and -1 is left over; 7 by -2 is -3, and 1 is left over
quotient_towards_zero : quotient (at 8 249) (at 8 2) true ≡ at 8 253
quotient_towards_zero = refl

remainder_of_dividend : remainder (at 8 249) (at 8 2) true ≡ at 8 255
remainder_of_dividend = refl

remainder_by_negative : remainder (at 8 7) (at 8 254) true ≡ at 8 1
remainder_by_negative = refl

-- shifts by the width and more
shift_by_width : shifted_left (at 8 5) (at 8 8) ≡ at 8 5
shift_by_width = refl

shift_by_more : shifted_right (at 8 128) (at 32 4294967295) true ≡ at 8 255
shift_by_more = refl

shift_out : shifted_left (at 8 129) (at 8 1) ≡ at 8 2
shift_out = refl

shift_keeps_sign : shifted_right (at 8 129) (at 8 1) true ≡ at 8 192
shift_keeps_sign = refl

shift_unsigned : shifted_right (at 8 129) (at 8 1) false ≡ at 8 64
shift_unsigned = refl

-- 8 bits to 128
sign_extension : recast (at 8 128) true 128 ≡ at 128 (2 ^ 128 - 128)
sign_extension = refl

zero_extension : recast (at 8 128) false 128 ≡ at 128 128
zero_extension = refl

cut_to_8 : recast (at 128 (2 ^ 128 - 1)) true 8 ≡ at 8 255
cut_to_8 = refl

-- 128 bits
product_of_128 : multiplied (at 128 (2 ^ 128 - 1)) (at 128 (2 ^ 128 - 1)) ≡ at 128 1
product_of_128 = refl

sum_of_128 : added (at 128 (2 ^ 128 - 1)) (at 128 2) ≡ at 128 1
sum_of_128 = refl

difference_wraps : subtracted (at 8 3) (at 8 5) ≡ at 8 254
difference_wraps = refl

minus_least : negated (at 8 128) ≡ at 8 128
minus_least = refl

turned : complement (at 128 0) ≡ at 128 (2 ^ 128 - 1)
turned = refl

-- overflow at each edge
sum_fits : is_sum_over (at 8 127) (at 8 128) true ≡ false
sum_fits = refl

sum_over_most : is_sum_over (at 8 127) (at 8 1) true ≡ true
sum_over_most = refl

sum_under_least : is_sum_over (at 8 128) (at 8 255) true ≡ true
sum_under_least = refl

sum_over_unsigned : is_sum_over (at 8 255) (at 8 1) false ≡ true
sum_over_unsigned = refl

difference_over_most : is_difference_over (at 8 0) (at 8 128) true ≡ true
difference_over_most = refl

difference_fits : is_difference_over (at 8 255) (at 8 128) true ≡ false
difference_fits = refl

difference_under_zero : is_difference_over (at 8 0) (at 8 1) false ≡ true
difference_under_zero = refl

product_at_least : is_product_over (at 8 128) (at 8 1) true ≡ false
product_at_least = refl

product_over_most : is_product_over (at 8 128) (at 8 255) true ≡ true
product_over_most = refl

product_over_128 : is_product_over (at 128 (2 ^ 64)) (at 128 (2 ^ 64)) false ≡ true
product_over_128 = refl

product_within_128 : is_product_over (at 128 (2 ^ 64 - 1)) (at 128 (2 ^ 64)) false ≡ false
product_within_128 = refl

less_signed : is_less (at 8 255) (at 8 0) true ≡ true
less_signed = refl

less_unsigned : is_less (at 8 255) (at 8 0) false ≡ false
less_unsigned = refl

-- words of one bit: 1 means -1 with a sign
one_bit : signed_value (at 1 1) ≡ negsuc 0
one_bit = refl

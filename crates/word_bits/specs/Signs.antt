-- A whole number by its sign and its absolute value.
use Rattle.std.specs.Prelude.{ℕ, Bool, true, false, not, ℤ, pos, negsuc, neg_ℤ}

-- the whole number is below zero
abbrev pub is_below_zero : ℤ → Bool
is_below_zero (pos n) = false
is_below_zero (negsuc n) = true

-- the whole number of this sign and absolute value
abbrev pub with_sign : Bool → ℕ → ℤ
with_sign false n = pos n
with_sign true n = neg_ℤ (pos n)

-- one of the two alone
abbrev pub differ : Bool → Bool → Bool
differ true b = not b
differ false b = b

-- Sums of products of words, as numbers: what they are under an assignment of numbers to terms, and what a change adds.
use Rattle.std.specs.Prelude.{◌≡◌, ℕ, ◌+◌, ◌*◌, ◌%◌, ◌^◌, ◌<◌, List, length, slice_get, Some}
use Rattle.std.specs.List.{sum_by}
use Rattle.sym_terms.specs.declared.sums.Product.{Product}
use Rattle.sym_terms.specs.declared.sums.Product.TheVariants.{One, Single, Pair}
use Rattle.sym_terms.specs.declared.sums.Summand.{Summand}

-- the product of the factors' numbers
abbrev pub product_value : (ℕ → ℕ) → Product → ℕ
product_value values One = 1
product_value values (Single a) = values a.0
product_value values (Pair a b) = values a.0 * values b.0

-- the number of a summand
abbrev pub summand_value : (ℕ → ℕ) → Summand → ℕ
summand_value values summand = summand.coefficient * product_value values summand.product

-- the number of a sum
unfoldable pub sum_value : (ℕ → ℕ) → List Summand → ℕ
sum_value values summands = sum_by (summand_value values) summands

-- two numbers that are one when cut to a width
pub record AreCongruent (width m n : ℕ) : Type 0 where
  pub cut : m % 2 ^ width ≡ n % 2 ^ width

-- the product of two products
pub record IsProduct (whole first second : Product) : Type 0 where
  pub value_is : (values : ℕ → ℕ) → product_value values whole ≡ product_value values first * product_value values second

-- the summand at this place may have the product for its own
pub record IsPlace (summands : List Summand) (product : Product) (at : ℕ) : Type 0 where
  pub inside : at < length summands
  pub value_is : (values : ℕ → ℕ) (found : Summand) → slice_get summands at ≡ Some found → summand_value values found ≡ found.coefficient * product_value values product

-- the new sum is the old one and this amount, cut to 128 bits
pub record Adds (old new : List Summand) (amount : (ℕ → ℕ) → ℕ) : Type 0 where
  pub sum_is : (values : ℕ → ℕ) → AreCongruent 128 (sum_value values new) (sum_value values old + amount values)

-- the sum is nothing at this width, under each assignment
pub record IsNothing (width : ℕ) (summands : List Summand) : Type 0 where
  pub sum_is : (values : ℕ → ℕ) → AreCongruent width (sum_value values summands) 0

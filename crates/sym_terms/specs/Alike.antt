-- What terms add to a sum of products, and when two terms have one value.
use Rattle.std.specs.Prelude.{◌≡◌, ℕ, ◌+◌, ◌%◌, ◌^◌, List}
use Rattle.sym_terms.specs.declared.term.Term.{Term}
use Rattle.sym_terms.specs.declared.sums.Summand.{Summand}
use Rattle.sym_terms.specs.Sums.{AreCongruent, sum_value}
use Rattle.sym_terms.specs.Terms.{value}

-- the value of a term as a number
abbrev pub number_at : List Term → (ℕ → ℕ) → ℕ → ℕ
number_at terms inputs id = (value terms inputs id).value

-- with the terms' numbers, the new sum is the old one and this amount, cut to a width
pub record Collects (terms : List Term) (width : ℕ) (old new : List Summand) (amount : (ℕ → ℕ) → ℕ) : Type 0 where
  pub sum_is : (inputs : ℕ → ℕ) → AreCongruent width (sum_value (number_at terms inputs) new) (sum_value (number_at terms inputs) old + amount inputs)

-- a shift to the left by the value of this term, at a width, is a product with the factor
pub record IsShiftFactor (terms : List Term) (amount width factor : ℕ) : Type 0 where
  pub factor_is : (inputs : ℕ → ℕ) → factor ≡ 2 ^ (number_at terms inputs amount % width)

-- the two terms have one value under each assignment
pub record AreAlike (terms : List Term) (a b : ℕ) : Type 0 where
  pub value_is : (inputs : ℕ → ℕ) → value terms inputs a ≡ value terms inputs b

-- A literal and its negation.
use Rattle.std.proofs.Common.{◌≡◌, ◌≢◌, ℕ, ◌+◌, ◌-◌, ◌%◌, inl, inr, arith}
use Rattle.std.proofs.lemmas.Bool.Decides.{nat_tests}
use Rattle.std.proofs.lemmas.Bool.{cases_lt}
use Rattle.region_pool.specs.Literals.{negation}
use Rattle.region_pool.specs.Clauses.{IsLiteral}

pub negation_even : (literal : ℕ) → literal % 2 ≡ 0 → negation literal ≡ literal + 1
unfolding negation
negation_even literal h = grind (arith, nat_tests)

pub negation_odd : (literal : ℕ) → literal % 2 ≡ 1 → negation literal ≡ literal - 1
unfolding negation
negation_odd literal h = grind (arith, nat_tests)

-- each case of a literal
pub data Side (literal : ℕ) : Type 0 where
  even : literal % 2 ≡ 0 → negation literal ≡ literal + 1 → Side literal
  odd : literal % 2 ≡ 1 → negation literal ≡ literal - 1 → Side literal

pub side : (literal : ℕ) → Side literal
side literal = elim (cases_lt (literal % 2) 1) [ inl h ↦ even (omega arith) (negation_even literal (omega arith)) | inr h ↦ odd (omega arith) (negation_odd literal (omega arith)) ]

pub negation-negation : (literal : ℕ) → negation (negation literal) ≡ literal
negation-negation literal = negation_back literal (side literal) (side (negation literal))
  where
    negation_back : (literal : ℕ) → Side literal → Side (negation literal) → negation (negation literal) ≡ literal
    negation_back literal (even a b) (even c d) = absurd (omega arith)
    negation_back literal (even a b) (odd c d) = omega arith
    negation_back literal (odd a b) (even c d) = omega arith
    negation_back literal (odd a b) (odd c d) = absurd (omega arith)

pub negation-apart : (literal : ℕ) → negation literal ≢ literal
negation-apart literal = elim (side literal) [ even a b ↦ λ e. absurd (omega arith) | odd a b ↦ λ e. absurd (omega arith) ]

pub negation-fits : (variables literal : ℕ) → IsLiteral variables literal → IsLiteral variables (negation literal)
negation-fits variables literal h = elim (side literal) [ even a b ↦ omega arith | odd a b ↦ omega arith ]

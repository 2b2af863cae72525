-- What the number of a word says.
use Rattle.std.specs.Prelude.{◌≡◌, ◌⊎◌, ◌+◌, ◌-◌, ◌*◌, ◌^◌, ◌<◌, ◌≤◌, ℕ, Bool, if◌then◌else◌, List, Option, Some, None, Result, Ok, Err}
use Rattle.std.specs.Str.Parse.{IsNumeral, digits_value, without_leading_plus}
use Rattle.dimacs_solve.specs.declared.dimacs.DimacsError.{DimacsError}

-- the number that decimal digits write, where a plus may stand first
abbrev pub number_of : List ℕ → ℕ
number_of digits = digits_value 10 (without_leading_plus digits)

-- decimal digits alone, of a number that fits a word
abbrev pub IsNumber : List ℕ → Type 0
IsNumber digits = IsNumeral 10 (without_leading_plus digits) × (number_of digits < 2 ^ 64)

-- 0 ends a clause, and n from 1 on is the variable n - 1, or its negation
abbrev pub NumberReads : ℕ → Bool → List ℕ → Result (Option ℕ) DimacsError → Type 0
NumberReads variables negated digits (Ok None) = IsNumber digits × (number_of digits ≡ 0)
NumberReads variables negated digits (Ok (Some literal)) =
    IsNumber digits × (0 < number_of digits) × (number_of digits ≤ variables)
    × (literal ≡ 2 * (number_of digits - 1) + (if negated then 1 else 0))
NumberReads variables negated digits (Err error) = IsNumber digits → (variables < number_of digits) ⊎ (2 ^ 63 ≤ number_of digits)

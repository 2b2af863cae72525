-- What literals and clauses say of an assignment.
use Rattle.std.specs.Prelude.{ℕ, Bool, not, List, ◌+◌, ◌-◌, ◌/◌, ◌%◌, ◌==◌, if◌then◌else◌, IsTrue, Any, All}

-- 2 * v and 2 * v + 1 are each other's negation
unfoldable pub negation : ℕ → ℕ
negation literal = if literal % 2 == 0 then literal + 1 else literal - 1

-- whether the literal is true where each variable has this value
unfoldable pub literal_value : (ℕ → Bool) → ℕ → Bool
literal_value assignment literal =
    if literal % 2 == 0 then assignment (literal / 2) else not (assignment (literal / 2))

-- some literal of the clause is true
abbrev pub ClauseHolds : (ℕ → Bool) → List ℕ → Type 0
ClauseHolds assignment clause = Any (λ literal. IsTrue (literal_value assignment literal)) clause

-- each clause holds
abbrev pub Satisfies : (ℕ → Bool) → List (List ℕ) → Type 0
Satisfies assignment clauses = All (ClauseHolds assignment) clauses

-- no assignment satisfies the clauses
abbrev pub IsUnsatisfiable : List (List ℕ) → Type 0
IsUnsatisfiable clauses = (assignment : ℕ → Bool) → ¬ Satisfies assignment clauses

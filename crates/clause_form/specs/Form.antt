-- The clauses of gates, and what they say.
use Rattle.std.specs.Prelude.{◌≡◌, ℕ, Bool, List, [], ◌∷◌, ◌++◌, ◌+◌, ◌*◌, ◌<◌, ◌↔◌, All, IsTrue, length, map, slice_get, Some}
use Rattle.region_pool.specs.Literals.{literal_value, negation, Satisfies}
use Rattle.region_pool.specs.Clauses.{ClauseList, HasLiterals}
use Rattle.bit_gates.specs.declared.gate.Gate.{Gate}
use Rattle.bit_gates.specs.declared.gate.Gate.TheVariants.{True, And, Xor, Choose}
use Rattle.bit_gates.specs.Values.{gate_value, valued}

-- the clauses by which the variable x is the gate: a clause for each way in which they could differ
abbrev pub gate_clauses : ℕ → Gate → List (List ℕ)
gate_clauses x True = ((2 * x) ∷ []) ∷ []
gate_clauses x (And a b) =
    ((2 * x + 1) ∷ a ∷ []) ∷ ((2 * x + 1) ∷ b ∷ []) ∷ ((2 * x) ∷ negation a ∷ negation b ∷ []) ∷ []
gate_clauses x (Xor a b) =
    ((2 * x + 1) ∷ a ∷ b ∷ []) ∷ ((2 * x + 1) ∷ negation a ∷ negation b ∷ []) ∷ ((2 * x) ∷ negation a ∷ b ∷ []) ∷ ((2 * x) ∷ a ∷ negation b ∷ []) ∷ []
gate_clauses x (Choose test a b) =
    ((2 * x + 1) ∷ negation test ∷ a ∷ []) ∷ ((2 * x + 1) ∷ test ∷ b ∷ []) ∷ ((2 * x) ∷ negation test ∷ negation a ∷ []) ∷ ((2 * x) ∷ test ∷ negation b ∷ []) ∷ []

-- the clauses of gates, which are the variables from this number on
abbrev pub clauses_of : ℕ → List Gate → List (List ℕ)
clauses_of at [] = []
clauses_of at (gate ∷ gates) = gate_clauses at gate ++ clauses_of (at + 1) gates

-- one clause for each literal
abbrev pub asserted : List ℕ → List (List ℕ)
asserted literals = map (λ literal. literal ∷ []) literals

-- each variable has the value that the gates compute for it from the input bits
abbrev pub IsComputed : ℕ → List Gate → (ℕ → Bool) → Type 0
IsComputed inputs gates f = (variable : ℕ) → variable < inputs + length gates → f variable ≡ valued f inputs gates variable

-- the literals are true
abbrev pub AreTrue : (ℕ → Bool) → List ℕ → Type 0
AreTrue f literals = All (λ literal. IsTrue (literal_value f literal)) literals

-- the assignments that satisfy the clauses are those in which each gate's variable has the gate's value and each root is true
pub record IsClauseForm (inputs : ℕ) (gates : List Gate) (roots : List ℕ) (list : ClauseList) : Type 0 where
  pub variables : list.variables ≡ inputs + length gates
  pub literals : HasLiterals list
  pub satisfied : (f : ℕ → Bool) → Satisfies f list.clauses ↔ (IsComputed inputs gates f × AreTrue f roots)

-- whatever the input bits are, one assignment has them and the values of the gates, and each such assignment is that one on all variables
pub record HasOneExtension (inputs : ℕ) (gates : List Gate) (bits : ℕ → Bool) : Type 0 where
  pub inputs_kept : (variable : ℕ) → variable < inputs → valued bits inputs gates variable ≡ bits variable
  pub computed : IsComputed inputs gates (valued bits inputs gates)
  pub only : (f : ℕ → Bool) → ((variable : ℕ) → variable < inputs → f variable ≡ bits variable) → IsComputed inputs gates f
      → (variable : ℕ) → variable < inputs + length gates → f variable ≡ valued bits inputs gates variable

-- Clauses that ask whether a term of one bit can be 1, and what an answer says of the term.
use Rattle.std.specs.Prelude.{◌≡◌, ℕ, Bool, true, false, List, get_or, length, min, ◌+◌, ◌-◌, ◌^◌, ◌==◌}
use Rattle.region_pool.specs.Clauses.{ClauseList}
use Rattle.region_pool.specs.Literals.{Satisfies}
use Rattle.region_pool.specs.Log.{Line}
use Rattle.region_pool.specs.Refutation.{IsSpent}
use Rattle.bit_gates.specs.declared.gates.InputBit.{InputBit}
use Rattle.sym_terms.specs.declared.term.Term.{Term}
use Rattle.sym_terms.specs.Terms.{value}
use Rattle.term_queries.specs.declared.query.TermAnswer.{TermAnswer}
use Rattle.term_queries.specs.declared.query.TermAnswer.TheVariants.{Can, Never, Spent}
use Rattle.term_queries.specs.Numbers.{AreNumbers}

-- the term, which has one bit, is 1
abbrev pub holds : List Term → (ℕ → ℕ) → ℕ → Bool
holds terms numbers root = (value terms numbers root).value == 1

-- an assignment that satisfies the clauses, and gives the input bits of these numbers their values
pub record IsModel (list : ClauseList) (inputs : List InputBit) (numbers : ℕ → ℕ) : Type 0 where
  pub model : ℕ → Bool
  pub satisfies : Satisfies model list.clauses
  pub agrees : AreNumbers inputs model numbers

-- the assignments that satisfy the clauses give to the input bits, which are the first variables, the numbers under which the
-- term is 1, and each such numbers are given by one
pub record IsQuery (terms : List Term) (root : ℕ) (inputs : List InputBit) (list : ClauseList) : Type 0 where
  pub sound : (model : ℕ → Bool) → Satisfies model list.clauses → (numbers : ℕ → ℕ) → AreNumbers inputs model numbers → holds terms numbers root ≡ true
  pub complete : (numbers : ℕ → ℕ) → holds terms numbers root ≡ true → IsModel list inputs numbers

-- a query of the term has a spent log of so many lines
pub record IsSpentAt (terms : List Term) (root lines : ℕ) : Type 0 where
  pub inputs : List InputBit
  pub list : ClauseList
  pub query : IsQuery terms root inputs list
  pub log : List Line
  pub spent : IsSpent list log
  pub long : length log ≡ lines

-- the numbers under which the term is 1; that it is 0 under all; or a spent log as long as the budget
abbrev pub IsAnswer : List Term → ℕ → ℕ → TermAnswer → Type 0
IsAnswer terms root budget (Can numbers) = holds terms (λ n. get_or numbers.items n 0) root ≡ true
IsAnswer terms root budget Never = (numbers : ℕ → ℕ) → holds terms numbers root ≡ false
IsAnswer terms root budget Spent = IsSpentAt terms root budget

-- the count of an effort after the answer: a spent budget is added, up to the greatest u64
abbrev pub effort_after : ℕ → ℕ → TermAnswer → ℕ
effort_after before budget (Can numbers) = before
effort_after before budget Never = before
effort_after before budget Spent = min (before + budget) (2 ^ 64 - 1)

-- the answer is another than Spent
abbrev pub IsKnown : TermAnswer → Type 0
IsKnown (Can numbers) = Unit {0}
IsKnown Never = Unit {0}
IsKnown Spent = ⊥

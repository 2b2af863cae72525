-- What an answer of the solver says.
use Rattle.std.specs.Prelude.{◌≡◌, ◌+◌, ◌-◌, ◌^◌, ℕ, false, length, vec_len, slice_index_or, min}
use Rattle.region_pool.specs.Clauses.{ClauseList}
use Rattle.region_pool.specs.Literals.{Satisfies, IsUnsatisfiable}
use Rattle.region_pool.specs.Refutation.{Refutes, IsSpent}
use Rattle.sat_core.specs.declared.solver.SatAnswer.{SatAnswer}
use Rattle.sat_core.specs.declared.solver.SatAnswer.TheVariants.{Sat, Unsat, Spent}

-- a value for each variable that makes each clause true, or a log that refutes the clauses, or a spent log of so many lines
abbrev pub AnswerIs : ClauseList → ℕ → SatAnswer → Type 0
AnswerIs input budget (Sat values) =
    (vec_len values ≡ input.variables) × Satisfies (λ variable. slice_index_or values.items variable false) input.clauses
AnswerIs input budget (Unsat log) = Refutes input log
AnswerIs input budget (Spent log) = IsSpent input log × (length log ≡ budget)

-- where the answer is a refutation, no values satisfy the clauses
abbrev pub RefutesSoundly : ClauseList → SatAnswer → Type 0
RefutesSoundly input (Sat values) = Unit {0}
RefutesSoundly input (Unsat log) = IsUnsatisfiable input.clauses
RefutesSoundly input (Spent log) = Unit {0}

-- the count of an effort after the answer: a spent budget is added, up to the greatest u64
abbrev pub effort_after : ℕ → ℕ → SatAnswer → ℕ
effort_after before budget (Sat values) = before
effort_after before budget (Unsat log) = before
effort_after before budget (Spent log) = min (before + budget) (2 ^ 64 - 1)

-- the answer is another than Spent
abbrev pub IsNotSpent : SatAnswer → Type 0
IsNotSpent (Sat values) = Unit {0}
IsNotSpent (Unsat log) = Unit {0}
IsNotSpent (Spent log) = ⊥

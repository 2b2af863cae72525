-- What may be told of the checks of a function of the scalar form.
use Rattle.std.specs.Prelude.{◌≡◌, ◌<◌, ◌≤◌, ◌+◌, ◌*◌, ◌-◌, ◌^◌, ℕ, Bool, List, [], ◌∷◌, length, map, min}
use Rattle.mir_ir.specs.declared.tree.Function.{Function}
use Rattle.region_pool.specs.Clauses.{ClauseList}
use Rattle.region_pool.specs.Literals.{Satisfies}
use Rattle.region_pool.specs.Log.{Line}
use Rattle.region_pool.specs.Refutation.{IsSpent}
use Rattle.bit_gates.specs.declared.gates.InputBit.{InputBit}
use Rattle.scalar_runs.specs.declared.breach.Breach.{Breach}
use Rattle.scalar_runs.specs.declared.kinds.Choice.{Choice}
use Rattle.scalar_checks.specs.Checks.{checks_of}
use Rattle.scalar_runs.specs.Run.{Faulted, run, start}
use Rattle.scalar_terms.specs.Faults.{FaultsWith}
use Rattle.scalar_terms.specs.Replays.{Reaches}
use Rattle.term_queries.specs.Numbers.{AreNumbers}
use Rattle.term_queries.specs.Queries.{IsModel}
use Rattle.scalar_verdicts.specs.Choices.{choices_of}
use Rattle.unit_reports.specs.declared.status.Outcome.{Outcome}
use Rattle.unit_reports.specs.declared.status.Outcome.TheVariants.{Success, Failure, BudgetSpent}
use Rattle.unit_reports.specs.declared.status.CheckStatus.{CheckStatus}

-- no run of any length ends in this fault
abbrev pub Never : Function → Breach → Type 0
Never f b = (n : ℕ) (choices unused : List Choice) → run f n (start f) choices ≡ Faulted b unused → ⊥

-- clauses whose satisfying assignments give to the input bits just the choices whose runs end in this fault
pub record IsQuery (f : Function) (b : Breach) (inputs : List InputBit) (list : ClauseList) : Type 0 where
  pub sound : (model : ℕ → Bool) → Satisfies model list.clauses → (numbers : ℕ → ℕ) → AreNumbers inputs model numbers → FaultsWith f numbers b
  pub complete : (numbers : ℕ → ℕ) → FaultsWith f numbers b → IsModel list inputs numbers

-- a query of the fault has a spent log of so many lines, and there are more ways to choose than that
pub record IsSpentAt (f : Function) (b : Breach) (lines : ℕ) : Type 0 where
  pub inputs : List InputBit
  pub list : ClauseList
  pub query : IsQuery f b inputs list
  pub log : List Line
  pub spent : IsSpent list log
  pub long : length log ≡ lines
  pub few : lines < 2 ^ 60
  pub many : lines < choices_of f

-- what is told under this budget of the check with this fault is so
abbrev pub IsTrueOf : Function → ℕ → Breach → Outcome → Type 0
IsTrueOf f budget b Success = Never f b
IsTrueOf f budget b (Failure choices steps) = Reaches f b choices.items steps
IsTrueOf f budget b (BudgetSpent lines) = (lines ≡ budget) × IsSpentAt f b lines

abbrev pub EachIsTrue : Function → ℕ → List CheckStatus → Type 0
EachIsTrue f budget [] = Unit {0}
EachIsTrue f budget (s ∷ ss) = IsTrueOf f budget s.check.breach s.outcome × EachIsTrue f budget ss

-- each check of the function is told of, in order, and what is told is so
pub record FitStatuses (f : Function) (budget : ℕ) (statuses : List CheckStatus) : Type 0 where
  pub checks : map (λ (s : CheckStatus). s.check) statuses ≡ checks_of f
  pub each : EachIsTrue f budget statuses

-- no choices and no number of steps lead to a fault
abbrev pub NeverFaults : Function → Type 0
NeverFaults f = (b : Breach) → Never f b

abbrev pub spent_one : Outcome → ℕ
spent_one Success = 0
spent_one (Failure choices steps) = 0
spent_one (BudgetSpent lines) = 1

-- how many of the statuses are spent
abbrev pub spent_count : List CheckStatus → ℕ
spent_count [] = 0
spent_count (s ∷ ss) = spent_one s.outcome + spent_count ss

abbrev pub NoneIsSpent : List CheckStatus → Type 0
NoneIsSpent ss = spent_count ss ≡ 0

-- the effort has risen by the budget for each spent status, or stands at the greatest u64
abbrev pub IsPaid : ℕ → ℕ → ℕ → List CheckStatus → Type 0
IsPaid before behind budget statuses = min (before + budget * spent_count statuses) (2 ^ 64 - 1) ≤ behind

-- What is known of the faults of a function while queries are asked: runs that were found, and failures that are left.
use Rattle.std.specs.Prelude.{◌≡◌, ◌⊎◌, ◌≤◌, ◌+◌, ◌*◌, ◌-◌, ◌^◌, ℕ, true, min, List, [], ◌∷◌, Option, Some, None, map}
use Rattle.std.specs.declared.alloc.Global.{Global}
use Rattle.std.specs.declared.vec.Vec.{Vec}
use Rattle.mir_ir.specs.declared.tree.Function.{Function}
use Rattle.sym_terms.specs.declared.term.Term.{Term}
use Rattle.scalar_runs.specs.declared.breach.Breach.{Breach}
use Rattle.scalar_checks.specs.declared.checks.Check.{Check}
use Rattle.scalar_runs.specs.declared.kinds.Choice.{Choice}
use Rattle.scalar_runs.specs.Run.{Faulted, run, start}
use Rattle.scalar_terms.specs.declared.failures.Failure.{Failure}
use Rattle.scalar_terms.specs.declared.replays.FaultRun.{FaultRun}
use Rattle.scalar_terms.specs.Faults.{FaultsWith}
use Rattle.scalar_terms.specs.Replays.{Reaches}
use Rattle.scalar_terms.specs.Ways.{AreFailures, Tells}
use Rattle.scalar_verdicts.specs.declared.rounds.Found.{Found}
use Rattle.scalar_verdicts.specs.declared.rounds.Round.{Round}
use Rattle.scalar_verdicts.specs.declared.rounds.Round.TheVariants as round
use Rattle.unit_reports.specs.declared.status.Outcome.{Outcome}
use Rattle.unit_reports.specs.declared.status.Outcome.TheVariants as outcome
use Rattle.unit_reports.specs.declared.status.CheckStatus.{CheckStatus}
use Rattle.scalar_verdicts.specs.Failures.{any_holds}
use Rattle.scalar_verdicts.specs.Runs.{Covers, EachReached, HasRun}
use Rattle.scalar_verdicts.specs.Statuses.{EachIsTrue, IsPaid, spent_one}

-- some inputs lead to the fault
pub record SomeFault (f : Function) (b : Breach) : Type 0 where
  pub inputs : ℕ → ℕ
  pub faults : FaultsWith f inputs b

-- each fault in which a run ends is one that some inputs lead to
unfoldable pub RunsHaveInputs : Function → Type 0
RunsHaveInputs f = (n : ℕ) (choices unused : List Choice) (b : Breach) → run f n (start f) choices ≡ Faulted b unused → SomeFault f b

-- what the failures tell is so
abbrev pub AreTold : Function → List Term → List Failure → Type 0
AreTold f terms failures = (inputs : ℕ → ℕ) (b : Breach) → Tells terms inputs failures b → FaultsWith f inputs b

-- what the failures that are left tell is so, and a fault that inputs lead to has a run in the list, or is told
pub record AreLeft (f : Function) (terms : List Term) (left : List Failure) (runs : List FaultRun) : Type 0 where
  pub failures : AreFailures terms left
  pub told : AreTold f terms left
  pub there : (inputs : ℕ → ℕ) (b : Breach) → FaultsWith f inputs b → HasRun runs b ⊎ Tells terms inputs left b

-- the failures are not so under any inputs, or a run ends in some fault
abbrev pub IsRound : Function → List Term → List Failure → Round → Type 0
IsRound f terms left round.Never = (inputs : ℕ → ℕ) (b : Breach) → Tells terms inputs left b → ⊥
IsRound f terms left (round.Found r) = Reaches f r.breach r.choices.items r.steps
IsRound f terms left round.Spent = Unit {0}

-- all faults are found, or those that are not may be told by the failures that are left
abbrev pub IsSettled : Function → List Term → List FaultRun → Option (Vec Failure Global) → Type 0
IsSettled f terms runs None = Covers f (start f) runs
IsSettled f terms runs (Some left) = AreLeft f terms left.items runs

pub record IsFound (f : Function) (terms : List Term) (found : Found) : Type 0 where
  pub reached : EachReached f found.runs.items
  pub settled : IsSettled f terms found.runs.items found.left

-- what the failures that are left tell is so, and they tell this fault under all inputs that lead to it
pub record AreLeftFor (f : Function) (terms : List Term) (left : List Failure) (b : Breach) : Type 0 where
  pub failures : AreFailures terms left
  pub told : AreTold f terms left
  pub there : (inputs : ℕ → ℕ) → FaultsWith f inputs b → Tells terms inputs left b

-- the failures of one fault: one of them is 1 under just the inputs that lead to it
pub record AreOf (f : Function) (terms : List Term) (own : List Failure) (b : Breach) : Type 0 where
  pub failures : AreFailures terms own
  pub sound : (inputs : ℕ → ℕ) → any_holds terms inputs own ≡ true → FaultsWith f inputs b
  pub complete : (inputs : ℕ → ℕ) → FaultsWith f inputs b → any_holds terms inputs own ≡ true

-- the failure with the choices and the steps of the run
abbrev pub IsFailureOf : FaultRun → Outcome → Type 0
IsFailureOf r outcome.Success = ⊥
IsFailureOf r (outcome.Failure choices steps) = (choices.items ≡ r.choices.items) × (steps ≡ r.steps)
IsFailureOf r (outcome.BudgetSpent lines) = ⊥

-- what is told of the check with this fault, where these runs are all that there are
abbrev pub IsKnownOf : List FaultRun → Breach → Outcome → Type 0
IsKnownOf runs b outcome.Success = HasRun runs b → ⊥
IsKnownOf runs b (outcome.Failure choices steps) = (f : Function) → EachReached f runs → Reaches f b choices.items steps
IsKnownOf runs b (outcome.BudgetSpent lines) = ⊥

abbrev pub EachIsKnown : List FaultRun → List CheckStatus → Type 0
EachIsKnown runs [] = Unit {0}
EachIsKnown runs (s ∷ ss) = IsKnownOf runs s.check.breach s.outcome × EachIsKnown runs ss

-- the status of each check, where these runs are all that there are
pub record AreKnown (runs : List FaultRun) (checks : List Check) (statuses : List CheckStatus) : Type 0 where
  pub checks_are : map (λ (s : CheckStatus). s.check) statuses ≡ checks
  pub each : EachIsKnown runs statuses

-- the effort has risen by the budget if the outcome is spent, or stands at the greatest u64
abbrev pub IsPaidOnce : ℕ → ℕ → ℕ → Outcome → Type 0
IsPaidOnce before behind budget told = min (before + budget * spent_one told) (2 ^ 64 - 1) ≤ behind

-- the status of each check
pub record AreAsked (f : Function) (budget before behind : ℕ) (checks : List Check) (statuses : List CheckStatus) : Type 0 where
  pub checks_are : map (λ (s : CheckStatus). s.check) statuses ≡ checks
  pub each : EachIsTrue f budget statuses
  pub paid : IsPaid before behind budget statuses

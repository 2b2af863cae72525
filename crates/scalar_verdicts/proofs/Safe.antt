-- Where the verdict of a function's statuses is SUCCESSFUL, none of its runs is a fault.
use Rattle.std.proofs.Common.{◌≡◌, inl, inr, ℕ, Bool, true, false, ◌||◌, cond, List, [], ◌∷◌, map, subst, sym, refl}
use Rattle.std.specs.List.{list_any}
use Rattle.mir_ir.specs.declared.tree.Function.{Function}
use Rattle.scalar_runs.specs.declared.breach.Breach.{Breach}
use Rattle.scalar_checks.specs.Checks.{checks_of}
use Rattle.scalar_form.specs.Form.{is_scalar}
use Rattle.scalar_runs.specs.Run.{start}
use Rattle.scalar_checks.specs.Complete.{HasCheck}
use Rattle.scalar_checks.proofs.Runs.{run_listed}
use Rattle.unit_reports.specs.declared.status.CheckStatus.{CheckStatus}
use Rattle.unit_reports.specs.declared.status.Outcome as status
use Rattle.unit_reports.specs.declared.status.Outcome.TheVariants.{Success, Failure, BudgetSpent}
use Rattle.unit_reports.specs.declared.verdict.Verdict.{Verdict}
use Rattle.unit_reports.specs.declared.verdict.Verdict.TheVariants as verdict
use Rattle.unit_reports.specs.Verdicts.{failed, is_failure, is_spent, spent, verdict_of}
use Rattle.scalar_verdicts.specs.Statuses.{EachIsTrue, FitStatuses, IsTrueOf, Never, NeverFaults}

-- no status of these is a failure or spent
pub record AllSucceed (ss : List CheckStatus) : Type 0 where
  pub failures : list_any is_failure ss ≡ false
  pub spents : list_any is_spent ss ≡ false

succeed_by : (fails spends : Bool) → (if_is : Verdict) → (cond fails verdict.Failed (cond spends verdict.Undetermined verdict.Successful)) ≡ verdict.Successful → (fails ≡ false) × (spends ≡ false)
succeed_by true spends v h = cc
succeed_by false true v h = cc
succeed_by false false v h = (refl, refl)

pub all_succeed : (ss : List CheckStatus) → verdict_of ss ≡ verdict.Successful → AllSucceed ss
unfolding verdict_of
all_succeed ss h = let both = succeed_by (list_any is_failure ss) (list_any is_spent ss) verdict.Successful h in record { failures = both.0; spents = both.1 }

left_false : (a b : Bool) → (a || b) ≡ false → a ≡ false
left_false true b h = h
left_false false b h = refl

right_false : (a b : Bool) → (a || b) ≡ false → b ≡ false
right_false true b h = cc
right_false false b h = h

success_never : (f : Function) (budget : ℕ) (b : Breach) (told : status.Outcome) → IsTrueOf f budget b told → failed told ≡ false → spent told ≡ false → Never f b
success_never f budget b Success true_of whole known = true_of
success_never f budget b (Failure choices steps) true_of whole known = cc
success_never f budget b (BudgetSpent lines) true_of whole known = cc

told_never : (f : Function) (budget : ℕ) (ss : List CheckStatus) (b : Breach) → EachIsTrue f budget ss → list_any is_failure ss ≡ false → list_any is_spent ss ≡ false → HasCheck (map (λ (s : CheckStatus). s.check) ss) b → Never f b
told_never f budget [] b each whole known h = absurd h
told_never f budget (x ∷ xs) b each whole known h =
    elim h [
      | inl this ↦ subst (Never f) this (success_never f budget x.check.breach x.outcome each.0 (left_false (is_failure x) (list_any is_failure xs) whole) (left_false (is_spent x) (list_any is_spent xs) known))
      | inr later ↦ told_never f budget xs b each.1 (right_false (is_failure x) (list_any is_failure xs) whole) (right_false (is_spent x) (list_any is_spent xs) known) later
    ]

pub never_faults : (f : Function) (budget : ℕ) (ss : List CheckStatus) → is_scalar f ≡ true → FitStatuses f budget ss → verdict_of ss ≡ verdict.Successful → NeverFaults f
never_faults f budget ss form fit success b n choices unused h =
    let listed : HasCheck (checks_of f) b = run_listed f form n (start f) choices unused b h in
    let all = all_succeed ss success in
    told_never f budget ss b fit.each all.failures all.spents (subst (λ cs. HasCheck cs b) (sym fit.checks) listed) n choices unused h

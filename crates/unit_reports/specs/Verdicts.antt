-- The verdict of a unit, by the outcomes of its checks.
use Rattle.std.specs.Prelude.{ℕ, ◌+◌, Bool, true, false, if◌then◌else◌, List, [], ◌∷◌}
use Rattle.std.specs.List.{list_any}
use Rattle.unit_reports.specs.declared.status.CheckStatus.{CheckStatus}
use Rattle.unit_reports.specs.declared.status.Outcome as status
use Rattle.unit_reports.specs.declared.status.Outcome.TheVariants as outcome
use Rattle.unit_reports.specs.declared.status.UnitReport.{UnitReport}
use Rattle.unit_reports.specs.declared.verdict.Verdict.{Verdict}
use Rattle.unit_reports.specs.declared.verdict.Verdict.TheVariants as verdict

abbrev pub failed : status.Outcome → Bool
failed outcome.Success = false
failed (outcome.Failure choices steps) = true
failed (outcome.BudgetSpent lines) = false

abbrev pub spent : status.Outcome → Bool
spent outcome.Success = false
spent (outcome.Failure choices steps) = false
spent (outcome.BudgetSpent lines) = true

abbrev pub is_failure : CheckStatus → Bool
is_failure s = failed s.outcome

abbrev pub is_spent : CheckStatus → Bool
is_spent s = spent s.outcome

-- FAILED with a failure, else UNDETERMINED with a check whose query was spent, else SUCCESSFUL
unfoldable pub verdict_of : List CheckStatus → Verdict
verdict_of ss = if list_any is_failure ss then verdict.Failed else (if list_any is_spent ss then verdict.Undetermined else verdict.Successful)

abbrev pub same_verdict : Verdict → Verdict → Bool
same_verdict verdict.Successful verdict.Successful = true
same_verdict verdict.Failed verdict.Failed = true
same_verdict verdict.Undetermined verdict.Undetermined = true
same_verdict a b = false

-- how many units have this verdict
abbrev pub count_of_verdict : Verdict → List UnitReport → ℕ
count_of_verdict v [] = 0
count_of_verdict v (r ∷ rs) = (if same_verdict (verdict_of r.statuses.items) v then 1 else 0) + count_of_verdict v rs

-- The lines of a report. Each ends in a line feed.
use Rattle.std.specs.Prelude.{ℕ, ◌+◌, List, [], ◌∷◌, ◌++◌, codes, length}
use Rattle.std.specs.Fmt.{decimal}
use Rattle.vk_core.specs.Class.{name_of_class}
use Rattle.scalar_runs.specs.declared.breach.Breach.{Breach}
use Rattle.scalar_checks.specs.declared.checks.Check.{Check}
use Rattle.scalar_runs.specs.declared.kinds.Choice.{Choice}
use Rattle.unit_reports.specs.declared.status.CheckStatus.{CheckStatus}
use Rattle.unit_reports.specs.declared.status.Outcome as status
use Rattle.unit_reports.specs.declared.status.Outcome.TheVariants as outcome
use Rattle.unit_reports.specs.declared.status.UnitReport.{UnitReport}
use Rattle.unit_reports.specs.declared.verdict.Verdict.{Verdict}
use Rattle.unit_reports.specs.declared.verdict.Verdict.TheVariants as verdict
use Rattle.unit_reports.specs.Values.{choices_text}
use Rattle.unit_reports.specs.Verdicts.{count_of_verdict, verdict_of}

abbrev pub line : List ℕ → List ℕ
line text = text ++ 10 ∷ []

-- `FUNCTION bbB[I]`
unfoldable pub site_text : List ℕ → Breach → List ℕ
site_text function b = function ++ codes " bb" ++ decimal b.block.0 ++ codes "[" ++ decimal b.index ++ codes "]"

-- `Check CLASS at SITE: WORD "DESCRIPTION"`
unfoldable pub check_text : List ℕ → Check → List ℕ → List ℕ
check_text function c word = codes "Check " ++ name_of_class c.breach.class ++ codes " at " ++ site_text function c.breach ++ codes ": " ++ word ++ codes " \"" ++ c.description ++ codes "\""

unfoldable pub choices_line : List Choice → List ℕ
choices_line choices = line (codes "  choices: " ++ choices_text choices)

unfoldable pub steps_line : ℕ → List ℕ
steps_line steps = line (codes "  steps: " ++ decimal steps)

unfoldable pub failure_lines : List ℕ → Check → List Choice → ℕ → List ℕ
failure_lines function c choices steps = line (check_text function c (codes "FAILURE")) ++ choices_line choices ++ steps_line steps

unfoldable pub spent_line : List ℕ → Check → ℕ → List ℕ
spent_line function c lines = line (check_text function c (codes "UNDETERMINED") ++ codes " after " ++ decimal lines ++ codes " conflicts")

-- the lines of a check: none for a success
abbrev pub outcome_lines : List ℕ → Check → status.Outcome → List ℕ
outcome_lines function c outcome.Success = []
outcome_lines function c (outcome.Failure choices steps) = failure_lines function c choices.items steps
outcome_lines function c (outcome.BudgetSpent lines) = spent_line function c lines

abbrev pub status_lines : List ℕ → List CheckStatus → List ℕ
status_lines function [] = []
status_lines function (s ∷ ss) = outcome_lines function s.check s.outcome ++ status_lines function ss

abbrev pub verdict_word : Verdict → List ℕ
verdict_word verdict.Successful = codes "SUCCESSFUL"
verdict_word verdict.Failed = codes "FAILED"
verdict_word verdict.Undetermined = codes "UNDETERMINED"

unfoldable pub verdict_line : Verdict → List ℕ
verdict_line v = line (codes "VERIFICATION:- " ++ verdict_word v)

unfoldable pub harness_line : List ℕ → List ℕ
harness_line harness = line (codes "Checking harness " ++ harness ++ codes "...")

unfoldable pub unit_lines : UnitReport → List ℕ
unit_lines r = harness_line r.harness ++ status_lines r.harness r.statuses.items ++ verdict_line (verdict_of r.statuses.items)

abbrev pub units_lines : List UnitReport → List ℕ
units_lines [] = []
units_lines (r ∷ rs) = unit_lines r ++ units_lines rs

-- how many units there are of each verdict, and of all; none is refused
unfoldable pub complete_line : List UnitReport → List ℕ
complete_line rs = line (codes "Complete - " ++ decimal (count_of_verdict verdict.Successful rs) ++ codes " successful, " ++ decimal (count_of_verdict verdict.Failed rs) ++ codes " failed, "
    ++ decimal (count_of_verdict verdict.Undetermined rs) ++ codes " undetermined, 0 refused, " ++ decimal (length rs) ++ codes " total.")

unfoldable pub report_of : List UnitReport → List ℕ
report_of rs = units_lines rs ++ complete_line rs

use Rattle.std.proofs.Common.{List, ℕ, [], ◌∷◌, ◌++◌, codes, length}
use Rattle.std.specs.Fmt.{decimal}
use Rattle.unit_reports.specs.Report.{complete_line}
use Rattle.unit_reports.specs.Verdicts.{count_of_verdict}
use Rattle.unit_reports.specs.declared.verdict.Verdict.TheVariants as verdict
use Rattle.unit_reports.proofs.Appending.{appended_decimal, appended_line, appended_twice}
use Rattle.unit_reports.proofs.report.push_complete.Goals as goal

pub returns : goal.returns
unfolding complete_line
returns c =
    let good : ℕ = count_of_verdict verdict.Successful c.args.reports.now in
    let bad : ℕ = count_of_verdict verdict.Failed c.args.reports.now in
    let unknown : ℕ = count_of_verdict verdict.Undetermined c.args.reports.now in
    let all : ℕ = length c.args.reports.now in
    let one : List ℕ = codes "Complete - " ++ decimal good in
    let two : List ℕ = one ++ codes " successful, " ++ decimal bad in
    let three : List ℕ = two ++ codes " failed, " ++ decimal unknown in
    let four : List ℕ = three ++ codes " undetermined, 0 refused, " ++ decimal all in
    let successes = appended_decimal c.args.out.now.items _ _ (codes "Complete - ") _ good c.count_of_verdict-successful.ensures.value c.in_ok-push_text.ensures c.in_ok-push_decimal.ensures in
    let success_words = appended_twice c.args.out.now.items _ _ one (codes " successful, ") successes c.in_ok-push_text-2.ensures in
    let failures = appended_decimal c.args.out.now.items _ _ (one ++ codes " successful, ") _ bad c.count_of_verdict-failed.ensures.value success_words c.in_ok-push_decimal-2.ensures in
    let failure_words = appended_twice c.args.out.now.items _ _ two (codes " failed, ") failures c.in_ok-push_text-3.ensures in
    let unknowns = appended_decimal c.args.out.now.items _ _ (two ++ codes " failed, ") _ unknown c.count_of_verdict-undetermined.ensures.value failure_words c.in_ok-push_decimal-3.ensures in
    let unknown_words = appended_twice c.args.out.now.items _ _ three (codes " undetermined, 0 refused, ") unknowns c.in_ok-push_text-4.ensures in
    let totals = appended_twice c.args.out.now.items _ _ (three ++ codes " undetermined, 0 refused, ") (decimal all) unknown_words c.in_ok-push_decimal-4.ensures in
    appended_line c.args.out.now.items _ _ four (codes " total.") (10 ∷ []) totals c.in_ok-push_text-5.ensures

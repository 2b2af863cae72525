use Rattle.std.proofs.Common.{[], ◌∷◌, ◌++◌, codes}
use Rattle.unit_reports.specs.Report.{harness_line}
use Rattle.unit_reports.proofs.Appending.{appended_line, appended_twice}
use Rattle.unit_reports.proofs.report.push_harness.Goals as goal

pub returns : goal.returns
unfolding harness_line
returns c =
    let named = appended_twice c.args.out.now.items _ _ (codes "Checking harness ") c.args.harness.now c.in_ok-push_text.ensures c.in_ok-push_name.ensures in
    appended_line c.args.out.now.items _ _ (codes "Checking harness " ++ c.args.harness.now) (codes "...") (10 ∷ []) named c.in_ok-push_text-2.ensures

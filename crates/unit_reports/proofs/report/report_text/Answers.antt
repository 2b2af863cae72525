use Rattle.std.proofs.Common.{rules, append_assoc}
use Rattle.unit_reports.specs.Report.{report_of}
use Rattle.unit_reports.proofs.report.report_text.Goals as goal

pub returns : goal.returns
unfolding report_of
returns c = search (rules, append_assoc)

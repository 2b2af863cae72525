use Rattle.std.proofs.Common.{rules, append_assoc}
use Rattle.unit_reports.specs.Report.{unit_lines}
use Rattle.unit_reports.proofs.report.push_unit.Goals as goal

pub returns : goal.returns
unfolding unit_lines
returns c = search (rules, append_assoc)

use Rattle.std.proofs.Common.{rules, append_assoc}
use Rattle.unit_reports.specs.Report.{failure_lines}
use Rattle.unit_reports.proofs.lines.push_failure.Goals as goal

pub returns : goal.returns
unfolding failure_lines
returns c = search (rules, append_assoc)

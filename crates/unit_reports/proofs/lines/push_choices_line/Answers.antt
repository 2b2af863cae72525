use Rattle.std.proofs.Common.{rules, append_assoc}
use Rattle.unit_reports.specs.Report.{choices_line}
use Rattle.unit_reports.proofs.lines.push_choices_line.Goals as goal

pub returns : goal.returns
unfolding choices_line
returns c = search (rules, append_assoc)

use Rattle.std.proofs.Common.{rules, append_assoc}
use Rattle.unit_reports.specs.Report.{steps_line}
use Rattle.unit_reports.proofs.lines.push_steps.Goals as goal

pub returns : goal.returns
unfolding steps_line
returns c = search (rules, append_assoc)

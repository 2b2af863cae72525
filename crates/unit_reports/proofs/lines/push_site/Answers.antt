use Rattle.std.proofs.Common.{rules, append_assoc}
use Rattle.unit_reports.specs.Report.{site_text}
use Rattle.unit_reports.proofs.lines.push_site.Goals as goal

pub returns : goal.returns
unfolding site_text
returns c = search (rules, append_assoc)

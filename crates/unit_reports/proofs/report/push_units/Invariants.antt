use Rattle.std.proofs.Common.{◌≡◌, ◌++◌, drop}
use Rattle.unit_reports.specs.Report.{units_lines}
use Rattle.unit_reports.proofs.report.push_units.Given as goal

abbrev pub invariant-loop-report : goal.invariant-loop-report
invariant-loop-report l = l.out.items ++ units_lines (drop l.report-index l.reports) ≡ l.initial.out.items ++ units_lines l.reports

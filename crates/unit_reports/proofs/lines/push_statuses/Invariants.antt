use Rattle.std.proofs.Common.{◌≡◌, ◌++◌, drop}
use Rattle.unit_reports.specs.Report.{status_lines}
use Rattle.unit_reports.proofs.lines.push_statuses.Given as goal

abbrev pub invariant-loop-status : goal.invariant-loop-status
invariant-loop-status l = l.out.items ++ status_lines l.function (drop l.status-index l.statuses) ≡ l.initial.out.items ++ status_lines l.function l.statuses

use Rattle.std.proofs.Common.{◌≡◌, ◌+◌, ◌≤◌, drop}
use Rattle.unit_reports.specs.Verdicts.{count_of_verdict}
use Rattle.unit_reports.proofs.verdict.count_of_verdict.Given as goal

abbrev pub invariant-loop-report : goal.invariant-loop-report
invariant-loop-report l = record { value : l.count + count_of_verdict l.verdict (drop l.report-index l.reports) ≡ count_of_verdict l.verdict l.reports; within : l.count ≤ l.report-index }

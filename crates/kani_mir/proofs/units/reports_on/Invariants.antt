use Rattle.std.proofs.Common.{◌≤◌, ◌++◌, List, length, All}
use Rattle.unit_reports.specs.declared.status.UnitReport.{UnitReport}
use Rattle.kani_mir.specs.Told.{IsKnown}
use Rattle.kani_mir.specs.Units.{AreReports}
use Rattle.kani_mir.proofs.units.reports_on.Given as goal

-- behind the reports that are made stand those of the units that are left
abbrev pub invariant-loop-left : goal.invariant-loop-left
invariant-loop-left l = record {
  known : All (IsKnown l.functions) l.left;
  makes : (more : List UnitReport) → AreReports l.functions l.left more → AreReports l.functions l.units (l.reports ++ more);
  later : l.initial.effort ≤ l.effort;
}

abbrev pub decreases-loop-left : goal.decreases-loop-left
decreases-loop-left l = length l.left

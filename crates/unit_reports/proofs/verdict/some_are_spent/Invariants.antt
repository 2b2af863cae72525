use Rattle.std.proofs.Common.{◌≡◌, length}
use Rattle.std.specs.List.{list_any}
use Rattle.unit_reports.specs.Verdicts.{is_spent}
use Rattle.unit_reports.proofs.verdict.some_are_spent.Given as goal

abbrev pub invariant-loop-left : goal.invariant-loop-left
invariant-loop-left l = list_any is_spent l.left ≡ list_any is_spent l.statuses

abbrev pub decreases-loop-left : goal.decreases-loop-left
decreases-loop-left l = length l.left

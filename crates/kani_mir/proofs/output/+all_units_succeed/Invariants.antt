use Rattle.std.proofs.Common.{length}
use Rattle.kani_mir.proofs.output.+all_units_succeed.Given as goal

abbrev pub decreases-all_units_succeed : goal.decreases-all_units_succeed
decreases-all_units_succeed l = length l.reports.now

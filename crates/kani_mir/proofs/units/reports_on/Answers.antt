use Rattle.kani_mir.specs.Told.{IsKnown}
use Rattle.kani_mir.proofs.UnitLemmas.{all_rest, at_most_later, more_reports, no_reports}
use Rattle.kani_mir.proofs.units.reports_on.Goals as goal

pub loop-left-preserved : goal.loop-left-preserved
loop-left-preserved c = record {
  known = all_rest (IsKnown c.args.functions.now) c.loop-left.left.now c.in-len1-up.len_at_least c.loop-left.invariant.known;
  makes = more_reports c.args.functions.now c.unit-item.result c.loop-left.left.now c.args.units.now c.loop-left.reports _ c.in_ok-report.report c.in-len1-up.len_at_least c.unit-item.is c.in_ok-push.ensures.ok
      c.loop-left.invariant.makes c.in_ok-report.ensures.report;
  later = at_most_later _ _ _ c.loop-left.invariant.later c.report_of.ensures.later;
}

pub returns-clause-reports : goal.returns-clause-reports
returns-clause-reports c = no_reports c.args.functions.now c.loop-left.left.now c.args.units.now c.loop-left.reports c.in_default.len_below c.loop-left.invariant.makes

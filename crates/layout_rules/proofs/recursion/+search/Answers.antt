use Rattle.std.proofs.Common.{◌<◌, length, arith}
use Rattle.layout_rules.proofs.SearchLaws.{entered_on, visit_at}
use Rattle.layout_rules.proofs.recursion.+search.Goals as goal

pub enter-returns : goal.enter-returns
enter-returns t c = entered_on c.args.outlines.now c.args.place c.args.marks.now c.visit.new.marks c.if-not-is_free.ensures.0 c.if-not-is_free.ensures.1 c.visit.ensures

pub visit-loop-h-preserved : goal.visit-loop-h-preserved
visit-loop-h-preserved t c =
    let within : c.loop-h.h-index < length c.held_at-held.result.now = omega arith in
    visit_at c.args.outlines.now c.args.place c.args.marks.now c.loop-h.marks c.enter.new.marks c.held_at-held.result.now c.loop-h.h-index _ within c.loop-h.invariant c.enter.ensures

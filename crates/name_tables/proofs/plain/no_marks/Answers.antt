use Rattle.std.proofs.Common.{false, refl, arith}
use Rattle.name_tables.proofs.PlainLaws.{marks_made, no_mark_more}
use Rattle.name_tables.proofs.plain.no_marks.Goals as goal

pub loop-place-preserved : goal.loop-place-preserved
loop-place-preserved c = (
  omega arith,
  no_mark_more c.args.types.now c.loop-place.place c.loop-place.marks.items _ c.loop-place-test.true c.in_ok-push.ensures.items c.loop-place.invariant.1,
)

pub returns : goal.returns
returns c = marks_made (λ own. false) c.args.types.now c.args.types.now c.loop-place.place c.loop-place.marks.items refl c.loop-place-test.false c.loop-place.invariant.1

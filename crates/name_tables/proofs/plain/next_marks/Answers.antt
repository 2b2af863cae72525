use Rattle.std.proofs.Common.{arith}
use Rattle.name_tables.specs.Plain.{own_plain, plain_by}
use Rattle.name_tables.proofs.PlainLaws.{marks_made, marks_more}
use Rattle.name_tables.proofs.plain.next_marks.Goals as goal

pub loop-place-preserved : goal.loop-place-preserved
loop-place-preserved c = (
  omega arith,
  marks_more (own_plain (plain_by c.args.types.now c.args.marks.now)) c.items-all.result.now c.loop-place.place c.index-all-place.result c.own_plain.result c.loop-place.next.items _
      c.loop-place-test.true c.index-all-place.is c.own_plain.ensures c.in_ok-push.ensures.items c.loop-place.invariant.1,
)

pub returns : goal.returns
returns c =
    marks_made (own_plain (plain_by c.args.types.now c.args.marks.now)) c.args.types.now c.items-all.result.now c.loop-place.place c.loop-place.next.items c.items-all.ensures c.loop-place-test.false
    c.loop-place.invariant.1

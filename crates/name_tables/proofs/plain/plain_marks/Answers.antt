use Rattle.std.proofs.Common.{◌≡◌, ◌∙◌, ◌+◌, length, refl, ap, arith}
use Rattle.name_tables.specs.Plain.{marks_after}
use Rattle.name_tables.proofs.PlainLaws.{marks_end, marks_next, marks_stay}
use Rattle.name_tables.proofs.plain.plain_marks.Goals as goal

pub loop-round-init : goal.loop-round-init
loop-round-init c = (omega arith, c.in_ok-marks.ensures ∙ ap (λ t. marks_after t 0) c.items-all.ensures)

pub returns-then-are_same : goal.returns-then-are_same
returns-then-are_same c =
    let as_many : length c.items-all.result.now ≡ length c.args.types.now = ap length c.items-all.ensures in
    marks_stay c.args.types.now c.loop-round.marks.items _ _ _ c.loop-round.round (omega arith) c.loop-round.invariant.1 c.as_slice-old.ensures.value c.in_ok-next.ensures c.as_slice.ensures.value
    (c.are_same.ensures.0 c.if-are_same.true)

pub loop-round-preserved : goal.loop-round-preserved
loop-round-preserved c = (
  omega arith,
  marks_next c.args.types.now c.loop-round.marks.items _ _ c.loop-round.round (c.loop-round.round + 1) refl c.loop-round.invariant.1 c.as_slice-old.ensures.value c.in_ok-next.ensures,
)

pub returns : goal.returns
returns c =
    let as_many : length c.items-all.result.now ≡ length c.args.types.now = ap length c.items-all.ensures in
    marks_end c.args.types.now c.loop-round.marks.items c.loop-round.round (omega arith) c.loop-round.invariant.1

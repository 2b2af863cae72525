use Rattle.std.proofs.Common.{◌∙◌, sym}
use Rattle.name_tables.specs.Plain.{plain_by}
use Rattle.name_tables.proofs.Walks.{fields_walk, walked_off, walked_on, walked_through}
use Rattle.name_tables.proofs.plain.fields_plain.Goals as goal

pub returns-then-not-is_plain_by : goal.returns-then-not-is_plain_by
returns-then-not-is_plain_by c =
    let f = plain_by c.args.types.now c.args.marks.now in
    walked_off (fields_walk f) c.args.fields.now c.loop-place.place c.index-fields-place.result c.is_plain_by.result
    c.loop-place-test.true c.index-fields-place.is c.loop-place.invariant
    (c.is_plain_by.ensures ∙ (λ i. f (sym c.index-fields-place.is i).ty)) c.if-not-is_plain_by.true

pub loop-place-preserved : goal.loop-place-preserved
loop-place-preserved c =
    let f = plain_by c.args.types.now c.args.marks.now in
    walked_on (fields_walk f) c.args.fields.now c.loop-place.place c.index-fields-place.result c.is_plain_by.result
    c.loop-place-test.true c.index-fields-place.is c.loop-place.invariant
    (c.is_plain_by.ensures ∙ (λ i. f (sym c.index-fields-place.is i).ty)) c.if-not-is_plain_by.false

pub returns : goal.returns
returns c = walked_through (fields_walk (plain_by c.args.types.now c.args.marks.now)) c.args.fields.now c.loop-place.place c.loop-place-test.false c.loop-place.invariant

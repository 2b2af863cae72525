use Rattle.std.proofs.Common.{◌∙◌, sym}
use Rattle.type_rules.specs.Lookup.{field_types}
use Rattle.type_rules.specs.Plain.{all_plain}
use Rattle.name_tables.specs.Plain.{plain_by}
use Rattle.name_tables.proofs.Walks.{variants_walk, walked_off, walked_on, walked_through}
use Rattle.name_tables.proofs.plain.variants_plain.Goals as goal

pub returns-then-not-fields_plain : goal.returns-then-not-fields_plain
returns-then-not-fields_plain c =
    let f = plain_by c.args.types.now c.args.marks.now in
    walked_off (variants_walk f) c.args.variants.now c.loop-place.place c.index-variants-place.result c.fields_plain.result
    c.loop-place-test.true c.index-variants-place.is c.loop-place.invariant
    (c.fields_plain.ensures ∙ (λ i. all_plain f (field_types (c.as_slice.ensures i))) ∙ (λ i. all_plain f (field_types (sym c.index-variants-place.is i).fields))) c.if-not-fields_plain.true

pub loop-place-preserved : goal.loop-place-preserved
loop-place-preserved c =
    let f = plain_by c.args.types.now c.args.marks.now in
    walked_on (variants_walk f) c.args.variants.now c.loop-place.place c.index-variants-place.result c.fields_plain.result
    c.loop-place-test.true c.index-variants-place.is c.loop-place.invariant
    (c.fields_plain.ensures ∙ (λ i. all_plain f (field_types (c.as_slice.ensures i))) ∙ (λ i. all_plain f (field_types (sym c.index-variants-place.is i).fields))) c.if-not-fields_plain.false

pub returns : goal.returns
returns c = walked_through (variants_walk (plain_by c.args.types.now c.args.marks.now)) c.args.variants.now c.loop-place.place c.loop-place-test.false c.loop-place.invariant

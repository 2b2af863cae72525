use Rattle.std.proofs.Common.{◌∙◌, sym, map, refl}
use Rattle.type_rules.specs.Lookup.{all_true}
use Rattle.name_tables.specs.Plain.{mark_of, plain_by}
use Rattle.name_tables.proofs.PlainForms.{array_plain, named_plain, tuple_plain}
use Rattle.name_tables.proofs.Walks.{all_true_walk, walked_off, walked_on, walked_through}
use Rattle.name_tables.proofs.plain.+plain.Goals as goal

pub is_plain_by-returns-in-Tuple : goal.is_plain_by-returns-in-Tuple
is_plain_by-returns-in-Tuple t c =
    c.are_plain_by.ensures ∙ (λ i. all_true (map (plain_by c.args.types.now c.args.marks.now) (c.as_slice.ensures i)))
    ∙ sym (tuple_plain c.args.types.now c.args.marks.now c.args.ty.now c.in-Tuple.items c.in-Tuple.is)

pub is_plain_by-returns-in-Array : goal.is_plain_by-returns-in-Array
is_plain_by-returns-in-Array t c =
    c.is_plain_by.ensures ∙ (λ i. plain_by c.args.types.now c.args.marks.now (c.get.ensures i))
    ∙ sym (array_plain c.args.types.now c.args.marks.now c.args.ty.now c.in-Array.item c.in-Array.count c.in-Array.is)

pub is_plain_by-returns-in-Named : goal.is_plain_by-returns-in-Named
is_plain_by-returns-in-Named t c =
    c.mark_of.ensures ∙ (λ i. mark_of c.args.types.now c.args.marks.now (c.as_bytes.ensures i))
    ∙ sym (named_plain c.args.types.now c.args.marks.now c.args.ty.now c.in-Named.path c.in-Named.is)

pub are_plain_by-loop-place-init : goal.are_plain_by-loop-place-init
are_plain_by-loop-place-init t c = refl

pub are_plain_by-returns-then-not-is_plain_by : goal.are_plain_by-returns-then-not-is_plain_by
are_plain_by-returns-then-not-is_plain_by t c =
    walked_off (all_true_walk (plain_by c.args.types.now c.args.marks.now)) c.args.items.now c.loop-place.place c.index-items-place.result c.is_plain_by.result
    c.loop-place-test.true c.index-items-place.is c.loop-place.invariant c.is_plain_by.ensures c.if-not-is_plain_by.true

pub are_plain_by-loop-place-preserved : goal.are_plain_by-loop-place-preserved
are_plain_by-loop-place-preserved t c =
    walked_on (all_true_walk (plain_by c.args.types.now c.args.marks.now)) c.args.items.now c.loop-place.place c.index-items-place.result c.is_plain_by.result
    c.loop-place-test.true c.index-items-place.is c.loop-place.invariant c.is_plain_by.ensures c.if-not-is_plain_by.false

pub are_plain_by-returns : goal.are_plain_by-returns
are_plain_by-returns t c = walked_through (all_true_walk (plain_by c.args.types.now c.args.marks.now)) c.args.items.now c.loop-place.place c.loop-place-test.false c.loop-place.invariant

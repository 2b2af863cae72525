use Rattle.std.proofs.Common.{◌∙◌, sym, refl}
use Rattle.type_rules.specs.Types.{same_bool, same_type, same_types}
use Rattle.type_rules.proofs.SameForms.{and_decided, and_next, arrays_of_one_count, arrays_of_two_counts, both_boxes, both_dyns, both_ints, both_named, both_raws, both_refs, both_slices, both_tuples, lengths_differ, same_no_more, same_on, same_to_end}
use Rattle.type_rules.proofs.types.+types.Goals as goal

pub same_type-returns-in-Int-b : goal.same_type-returns-in-Int-b
same_type-returns-in-Int-b t c = c.same_int.ensures ∙ sym (both_ints c.args.a.now c.args.b.now c.in-Int.int c.in-Int-b.other c.in-Int.is c.in-Int-b.is)

pub same_type-returns-in-Tuple-b : goal.same_type-returns-in-Tuple-b
same_type-returns-in-Tuple-b t c =
    c.same_types.ensures ∙ (λ i. same_types (c.as_slice.ensures i) (c.as_slice-in-Tuple-b.ensures i))
    ∙ sym (both_tuples c.args.a.now c.args.b.now c.in-Tuple.items c.in-Tuple-b.others c.in-Tuple.is c.in-Tuple-b.is)

pub same_type-returns-then-count-others : goal.same_type-returns-then-count-others
same_type-returns-then-count-others t c =
    c.same_type.ensures ∙ (λ i. same_type (c.get.ensures i) (c.get-then-count-others.ensures i))
    ∙ sym (arrays_of_one_count c.args.a.now c.args.b.now c.in-Array.item c.in-Array-b.other c.in-Array.count c.in-Array-b.others c.in-Array.is c.in-Array-b.is c.if-count-others.true)

pub same_type-returns-else-count-others : goal.same_type-returns-else-count-others
same_type-returns-else-count-others t c =
    arrays_of_two_counts c.args.a.now c.args.b.now c.in-Array.item c.in-Array-b.other c.in-Array.count c.in-Array-b.others c.in-Array.is c.in-Array-b.is c.if-count-others.false

pub same_type-returns-in-Slice-b : goal.same_type-returns-in-Slice-b
same_type-returns-in-Slice-b t c =
    c.same_type-in-Slice-b.ensures ∙ (λ i. same_type (c.get-in-Slice-b.ensures i) (c.get-in-Slice-b-2.ensures i))
    ∙ sym (both_slices c.args.a.now c.args.b.now c.in-Slice.item c.in-Slice-b.other c.in-Slice.is c.in-Slice-b.is)

pub same_type-returns-then-same_bool : goal.same_type-returns-then-same_bool
same_type-returns-then-same_bool t c =
    and_next (same_type c.args.a.now c.args.b.now) (same_bool c.in-Ref.mutable c.in-Ref-b.another) c.same_type-then-same_bool.result (same_type c.in-Ref.target c.in-Ref-b.other)
    (both_refs c.args.a.now c.args.b.now c.in-Ref.target c.in-Ref-b.other c.in-Ref.mutable c.in-Ref-b.another c.in-Ref.is c.in-Ref-b.is)
    (sym c.same_bool.ensures ∙ c.if-same_bool.true)
    (c.same_type-then-same_bool.ensures ∙ (λ i. same_type (c.get-then-same_bool.ensures i) (c.get-then-same_bool-2.ensures i)))

pub same_type-returns-else-same_bool : goal.same_type-returns-else-same_bool
same_type-returns-else-same_bool t c =
    and_decided (same_type c.args.a.now c.args.b.now) (same_bool c.in-Ref.mutable c.in-Ref-b.another) c.same_bool.result (same_type c.in-Ref.target c.in-Ref-b.other)
    (both_refs c.args.a.now c.args.b.now c.in-Ref.target c.in-Ref-b.other c.in-Ref.mutable c.in-Ref-b.another c.in-Ref.is c.in-Ref-b.is)
    (sym c.same_bool.ensures ∙ c.if-same_bool.false) c.same_bool.ensures

pub same_type-returns-then-same_bool-2 : goal.same_type-returns-then-same_bool-2
same_type-returns-then-same_bool-2 t c =
    and_next (same_type c.args.a.now c.args.b.now) (same_bool c.in-Raw.mutable c.in-Raw-b.another) c.same_type-then-same_bool-2.result (same_type c.in-Raw.target c.in-Raw-b.other)
    (both_raws c.args.a.now c.args.b.now c.in-Raw.target c.in-Raw-b.other c.in-Raw.mutable c.in-Raw-b.another c.in-Raw.is c.in-Raw-b.is)
    (sym c.same_bool-in-Raw-b.ensures ∙ c.if-same_bool-2.true)
    (c.same_type-then-same_bool-2.ensures ∙ (λ i. same_type (c.get-then-same_bool-2-2.ensures i) (c.get-then-same_bool-2-3.ensures i)))

pub same_type-returns-else-same_bool-2 : goal.same_type-returns-else-same_bool-2
same_type-returns-else-same_bool-2 t c =
    and_decided (same_type c.args.a.now c.args.b.now) (same_bool c.in-Raw.mutable c.in-Raw-b.another) c.same_bool-in-Raw-b.result (same_type c.in-Raw.target c.in-Raw-b.other)
    (both_raws c.args.a.now c.args.b.now c.in-Raw.target c.in-Raw-b.other c.in-Raw.mutable c.in-Raw-b.another c.in-Raw.is c.in-Raw-b.is)
    (sym c.same_bool-in-Raw-b.ensures ∙ c.if-same_bool-2.false) c.same_bool-in-Raw-b.ensures

pub same_type-returns-in-BoxOf-b : goal.same_type-returns-in-BoxOf-b
same_type-returns-in-BoxOf-b t c =
    c.same_type-in-BoxOf-b.ensures ∙ (λ i. same_type (c.get-in-BoxOf-b.ensures i) (c.get-in-BoxOf-b-2.ensures i))
    ∙ sym (both_boxes c.args.a.now c.args.b.now c.in-BoxOf.target c.in-BoxOf-b.other c.in-BoxOf.is c.in-BoxOf-b.is)

pub same_type-returns-in-Dyn-b : goal.same_type-returns-in-Dyn-b
same_type-returns-in-Dyn-b t c = c.same_name.ensures ∙ sym (both_dyns c.args.a.now c.args.b.now c.in-Dyn.path c.in-Dyn-b.other c.in-Dyn.is c.in-Dyn-b.is)

pub same_type-returns-in-Named-b : goal.same_type-returns-in-Named-b
same_type-returns-in-Named-b t c =
    c.same_name-in-Named-b.ensures ∙ sym (both_named c.args.a.now c.args.b.now c.in-Named.path c.in-Named-b.other c.in-Named.is c.in-Named-b.is)

pub same_types-returns-then-a-b : goal.same_types-returns-then-a-b
same_types-returns-then-a-b t c = sym (lengths_differ c.args.a.now c.args.b.now c.if-a-b.true)

pub same_types-loop-place-init : goal.same_types-loop-place-init
same_types-loop-place-init t c = (c.if-a-b.false, refl)

pub same_types-returns-then-not-same_type : goal.same_types-returns-then-not-same_type
same_types-returns-then-not-same_type t c =
    same_no_more c.args.a.now c.args.b.now c.loop-place.place c.index-a-place.result c.index-b-place.result c.loop-place-test.true c.loop-place.invariant.0
    c.index-a-place.is c.index-b-place.is c.loop-place.invariant.1 (sym c.same_type.ensures ∙ c.if-not-same_type.true)

pub same_types-loop-place-preserved : goal.same_types-loop-place-preserved
same_types-loop-place-preserved t c = (
  c.loop-place.invariant.0,
  same_on c.args.a.now c.args.b.now c.loop-place.place c.index-a-place.result c.index-b-place.result c.loop-place-test.true c.loop-place.invariant.0
      c.index-a-place.is c.index-b-place.is c.loop-place.invariant.1 (sym c.same_type.ensures ∙ c.if-not-same_type.false),
)

pub same_types-returns : goal.same_types-returns
same_types-returns t c = same_to_end c.args.a.now c.args.b.now c.loop-place.place c.loop-place-test.false c.loop-place.invariant.0 c.loop-place.invariant.1

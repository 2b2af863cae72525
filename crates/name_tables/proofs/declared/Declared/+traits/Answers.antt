use Rattle.std.proofs.Common.{refl}
use Rattle.type_rules.specs.Lookup.{knows_traits}
use Rattle.name_tables.proofs.TraitForms.{known_array, known_box, known_dyn, known_raw, known_ref, known_slice, known_tuple}
use Rattle.name_tables.proofs.Walks.{all_true_walk, walked_off, walked_on, walked_through}
use Rattle.name_tables.proofs.declared.Declared.+traits.Goals as goal

pub knows_traits-returns-in-Tuple : goal.knows_traits-returns-in-Tuple
knows_traits-returns-in-Tuple t c = known_tuple c.args.self.now c.args.ty.now c.in-Tuple.items _ _ c.in-Tuple.is c.as_slice.ensures c.knows_all.ensures

pub knows_traits-returns-in-Array : goal.knows_traits-returns-in-Array
knows_traits-returns-in-Array t c = known_array c.args.self.now c.args.ty.now c.in-Array.item _ c.in-Array.count _ c.in-Array.is c.get.ensures c.knows_traits.ensures

pub knows_traits-returns-in-Slice : goal.knows_traits-returns-in-Slice
knows_traits-returns-in-Slice t c = known_slice c.args.self.now c.args.ty.now c.in-Slice.item _ _ c.in-Slice.is c.get-in-Slice.ensures c.knows_traits-in-Slice.ensures

pub knows_traits-returns-in-Ref : goal.knows_traits-returns-in-Ref
knows_traits-returns-in-Ref t c = known_ref c.args.self.now c.args.ty.now c.in-Ref.target _ c.in-Ref.mutable _ c.in-Ref.is c.get-in-Ref.ensures c.knows_traits-in-Ref.ensures

pub knows_traits-returns-in-Raw : goal.knows_traits-returns-in-Raw
knows_traits-returns-in-Raw t c = known_raw c.args.self.now c.args.ty.now c.in-Raw.target _ c.in-Raw.mutable _ c.in-Raw.is c.get-in-Raw.ensures c.knows_traits-in-Raw.ensures

pub knows_traits-returns-in-BoxOf : goal.knows_traits-returns-in-BoxOf
knows_traits-returns-in-BoxOf t c = known_box c.args.self.now c.args.ty.now c.in-BoxOf.target _ _ c.in-BoxOf.is c.get-in-BoxOf.ensures c.knows_traits-in-BoxOf.ensures

pub knows_traits-returns-in-Dyn : goal.knows_traits-returns-in-Dyn
knows_traits-returns-in-Dyn t c = known_dyn c.args.self.now c.args.ty.now c.in-Dyn.path _ _ _ c.in-Dyn.is c.as_bytes.ensures c.trait_named.ensures c.is_some.ensures

pub knows_all-loop-place-init : goal.knows_all-loop-place-init
knows_all-loop-place-init t c = refl

pub knows_all-returns-then-not-knows_traits : goal.knows_all-returns-then-not-knows_traits
knows_all-returns-then-not-knows_traits t c =
    walked_off (all_true_walk (knows_traits c.args.self.now)) c.args.types.now c.loop-place.place c.index-types-place.result c.knows_traits.result
    c.loop-place-test.true c.index-types-place.is c.loop-place.invariant c.knows_traits.ensures c.if-not-knows_traits.true

pub knows_all-loop-place-preserved : goal.knows_all-loop-place-preserved
knows_all-loop-place-preserved t c =
    walked_on (all_true_walk (knows_traits c.args.self.now)) c.args.types.now c.loop-place.place c.index-types-place.result c.knows_traits.result
    c.loop-place-test.true c.index-types-place.is c.loop-place.invariant c.knows_traits.ensures c.if-not-knows_traits.false

pub knows_all-returns : goal.knows_all-returns
knows_all-returns t c = walked_through (all_true_walk (knows_traits c.args.self.now)) c.args.types.now c.loop-place.place c.loop-place-test.false c.loop-place.invariant

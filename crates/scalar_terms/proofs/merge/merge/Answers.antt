use Rattle.std.proofs.Common.{subst, sym}
use Rattle.value_terms.proofs.MadeLaws.{bit_kept}
use Rattle.value_terms.proofs.RvalueLaws.{slots_kept}
use Rattle.scalar_terms.specs.Picks.{ArePairs}
use Rattle.scalar_terms.proofs.MergeLaws.{merged_made, pairs_from}
use Rattle.scalar_terms.proofs.merge.merge.Goals as goal

pub pick_slots-requires-clause-test : goal.pick_slots-requires-clause-test
pick_slots-requires-clause-test c = bit_kept c.args.terms.now c.either.new.terms _ c.in_ok-both.ensures.grown.keeps c.requires.guard

pub pick_slots-requires-clause-pairs : goal.pick_slots-requires-clause-pairs
pick_slots-requires-clause-pairs c = subst (ArePairs c.either.new.terms c.args.slots.now) (sym c.as_slice.ensures.value)
    (pairs_from c.args.function.now c.either.new.terms c.args.slots.now c.args.way.now.slots.items
    (slots_kept c.args.function.now c.args.terms.now c.either.new.terms _ c.in_ok-both.ensures.grown.keeps c.requires.slots)
    (slots_kept c.args.function.now c.args.terms.now c.either.new.terms _ c.in_ok-both.ensures.grown.keeps c.requires.way.slots))

pub returns : goal.returns
returns c = merged_made c.args.function.now c.args.terms.now c.either.new.terms c.pick_slots.new.terms c.args.guard.0 c.args.slots.now c.args.way.now _ c.requires.guard c.requires.slots c.requires.way c.in_ok-both.ensures
    (rw c.new-picked.ensures.items at (rw c.as_slice.ensures.value at c.in_ok-pick_slots.ensures))

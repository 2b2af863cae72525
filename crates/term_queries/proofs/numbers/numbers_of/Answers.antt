use Rattle.std.proofs.Common.{false, List, ℕ, sym, subst}
use Rattle.std.specs.Prelude.{slice_index_or}
use Rattle.term_queries.specs.Numbers.{HaveBits}
use Rattle.term_queries.proofs.NumberLaws.{none_set, placed_on}
use Rattle.term_queries.proofs.numbers.numbers_of.Goals as goal

pub loop-place-init : goal.loop-place-init
loop-place-init c =
    subst (λ (l : List ℕ). HaveBits c.args.inputs.now (λ v. slice_index_or c.args.values.now v false) l 0) (sym c.new-numbers.ensures.items)
    (none_set c.args.inputs.now (λ v. slice_index_or c.args.values.now v false))

pub loop-place-preserved : goal.loop-place-preserved
loop-place-preserved c = placed_on c.args.inputs.now (λ v. slice_index_or c.args.values.now v false) c.loop-place.numbers.items c.put_bit.new.numbers.items c.loop-place.place c.value_at.result
    c.requires.apart c.loop-place-test.true (sym c.value_at.ensures) c.in_ok-put_bit.ensures c.loop-place.invariant

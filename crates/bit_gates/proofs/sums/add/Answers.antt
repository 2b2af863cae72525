use Rattle.std.proofs.Common.{refl, arith}
use Rattle.bit_gates.proofs.NumberLaws.{in_at_later}
use Rattle.bit_gates.proofs.WordLaws.{sum_none, sum_more, sum_whole}
use Rattle.bit_gates.proofs.sums.add.Goals as goal

pub full_adder-requires-clause-x_inside : goal.full_adder-requires-clause-x_inside
full_adder-requires-clause-x_inside c = in_at_later _ _ _ _ _ c.loop-i.invariant.extends c.loop-i-test.true refl c.requires.xs_inside

pub full_adder-requires-clause-y_inside : goal.full_adder-requires-clause-y_inside
full_adder-requires-clause-y_inside c = in_at_later _ _ _ _ _ c.loop-i.invariant.extends (omega arith) refl c.requires.ys_inside

pub loop-i-init : goal.loop-i-init
loop-i-init c = rw c.in_ok-literals.ensures.items (sum_none _ c.args.xs.now c.args.ys.now _ c.requires.carry_inside)

pub loop-i-preserved : goal.loop-i-preserved
loop-i-preserved c =
    rw c.in_ok-push.ensures.items
    (sum_more _ _ _ _ _ _ _ _ _ _ _ _ _ c.loop-i-test.true (omega arith) refl refl c.requires.xs_inside c.requires.ys_inside c.loop-i.invariant c.in_ok-sum.ensures)

pub returns : goal.returns
returns c = sum_whole _ _ _ _ _ _ _ _ (omega arith) (omega arith) c.loop-i.invariant

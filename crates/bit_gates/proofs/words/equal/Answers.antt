use Rattle.std.proofs.Common.{Bool, true, not, ◌&&◌, eqb, refl, arith}
use Rattle.bit_gates.specs.Values.{differ}
use Rattle.bit_gates.proofs.BitOpLaws.{equal_step}
use Rattle.bit_gates.proofs.NumberLaws.{in_at_later}
use Rattle.bit_gates.proofs.WordLaws.{test_none, test_more, test_whole}
use Rattle.bit_gates.proofs.words.equal.Goals as goal

pub equal_bit-requires-clause-x_inside : goal.equal_bit-requires-clause-x_inside
equal_bit-requires-clause-x_inside c = in_at_later _ _ _ _ _ c.loop-i.invariant.extends c.loop-i-test.true refl c.requires.xs_inside

pub equal_bit-requires-clause-y_inside : goal.equal_bit-requires-clause-y_inside
equal_bit-requires-clause-y_inside c = in_at_later _ _ _ _ _ c.loop-i.invariant.extends (omega arith) refl c.requires.ys_inside

pub loop-i-init : goal.loop-i-init
loop-i-init c = test_none _ c.args.xs.now c.args.ys.now _ true eqb refl c.constant-same.ensures

pub loop-i-preserved : goal.loop-i-preserved
loop-i-preserved c =
    test_more _ _ _ _ _ _ _ _ _ _ eqb (λ (k p q : Bool). k && not (differ p q)) (λ m n p q lm ln. equal_step c.loop-i.i m n p q lm ln)
    c.loop-i-test.true (omega arith) refl refl c.requires.xs_inside c.requires.ys_inside c.loop-i.invariant c.in_ok-same.ensures

pub returns : goal.returns
returns c = test_whole _ _ _ _ _ _ eqb (omega arith) (omega arith) c.loop-i.invariant

use Rattle.std.proofs.Common.{refl, arith}
use Rattle.bit_gates.specs.BitOps.{bit_result, word_result}
use Rattle.bit_gates.proofs.BitOpLaws.{bit_step, bit_zero}
use Rattle.bit_gates.proofs.NumberLaws.{in_at_later}
use Rattle.bit_gates.proofs.WordLaws.{pair_none, pair_more, pair_whole}
use Rattle.bit_gates.proofs.words.bitwise.Goals as goal

pub bit_of-requires-clause-x_inside : goal.bit_of-requires-clause-x_inside
bit_of-requires-clause-x_inside c = in_at_later _ _ _ _ _ c.loop-i.invariant.extends c.loop-i-test.true refl c.requires.xs_inside

pub bit_of-requires-clause-y_inside : goal.bit_of-requires-clause-y_inside
bit_of-requires-clause-y_inside c = in_at_later _ _ _ _ _ c.loop-i.invariant.extends (omega arith) refl c.requires.ys_inside

pub loop-i-init : goal.loop-i-init
loop-i-init c = rw c.in_ok-literals.ensures.items (pair_none _ c.args.xs.now c.args.ys.now (λ v m n. word_result c.args.op m n) (λ v. bit_zero c.args.op))

pub loop-i-preserved : goal.loop-i-preserved
loop-i-preserved c =
    rw c.in_ok-push.ensures.items
    (pair_more _ _ _ _ _ _ _ _ _ _ (λ v m n. word_result c.args.op m n) (λ v p q. bit_result c.args.op p q) (λ bits m n p q lm ln. bit_step c.args.op c.loop-i.i m n p q lm ln)
    c.loop-i-test.true (omega arith) refl refl c.requires.xs_inside c.requires.ys_inside c.loop-i.invariant c.in_ok-literal.ensures)

pub returns : goal.returns
returns c = pair_whole _ _ _ _ _ _ (λ v m n. word_result c.args.op m n) (omega arith) (omega arith) c.loop-i.invariant

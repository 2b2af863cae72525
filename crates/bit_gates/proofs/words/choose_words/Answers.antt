use Rattle.std.proofs.Common.{cond, refl, arith}
use Rattle.bit_gates.specs.Circuit.{value}
use Rattle.bit_gates.proofs.BitOpLaws.{choice_step, choice_zero}
use Rattle.bit_gates.proofs.NumberLaws.{in_at_later}
use Rattle.bit_gates.proofs.WordLaws.{pair_none, pair_more, pair_whole}
use Rattle.bit_gates.proofs.words.choose_words.Goals as goal

pub choose-requires-clause-test_inside : goal.choose-requires-clause-test_inside
choose-requires-clause-test_inside c = omega (arith, c.loop-i.invariant.extends.grown)

pub choose-requires-clause-a_inside : goal.choose-requires-clause-a_inside
choose-requires-clause-a_inside c = in_at_later _ _ _ _ _ c.loop-i.invariant.extends c.loop-i-test.true refl c.requires.xs_inside

pub choose-requires-clause-b_inside : goal.choose-requires-clause-b_inside
choose-requires-clause-b_inside c = in_at_later _ _ _ _ _ c.loop-i.invariant.extends (omega arith) refl c.requires.ys_inside

pub loop-i-init : goal.loop-i-init
loop-i-init c = rw c.in_ok-literals.ensures.items (pair_none _ c.args.xs.now c.args.ys.now (λ v m n. cond (v c.args.test) m n) (λ v. choice_zero (v c.args.test)))

pub loop-i-preserved : goal.loop-i-preserved
loop-i-preserved c =
    rw c.in_ok-push.ensures.items
    (pair_more _ _ _ _ _ _ _ _ _ _ (λ v m n. cond (v c.args.test) m n) (λ v p q. cond (v c.args.test) p q)
    (λ bits m n p q lm ln.
    rw (c.loop-i.invariant.extends.kept bits c.args.test c.requires.test_inside) (choice_step (value c.args.net.now bits c.args.test) c.loop-i.i m n p q))
    c.loop-i-test.true (omega arith) refl refl c.requires.xs_inside c.requires.ys_inside c.loop-i.invariant c.in_ok-literal.ensures)

pub returns : goal.returns
returns c = pair_whole _ _ _ _ _ _ (λ v m n. cond (v c.args.test) m n) (omega arith) (omega arith) c.loop-i.invariant

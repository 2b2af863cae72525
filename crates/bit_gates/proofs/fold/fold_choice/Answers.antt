use Rattle.bit_gates.proofs.FoldLaws.{choice_a_truth, choice_a_test, choice_a_falsity, choice_a_other, choice_b_truth, choice_b_other, choice_b_falsity, choice_b_test, choice_apart, choice_turned}
use Rattle.bit_gates.proofs.fold.fold_choice.Goals as goal

pub returns-then-a-truth : goal.returns-then-a-truth
returns-then-a-truth c = choice_a_truth _ _ _ _ _ c.if-a-truth.true c.fold_or.ensures

pub returns-then-a-test : goal.returns-then-a-test
returns-then-a-test c = choice_a_test _ _ _ _ _ c.if-a-test.true c.fold_or-then-a-test.ensures

pub returns-then-a-falsity : goal.returns-then-a-falsity
returns-then-a-falsity c = choice_a_falsity _ _ _ _ _ _ _ c.negation-falsity.ensures c.negation-other.ensures c.if-a-falsity.true c.fold_and.ensures

pub returns-then-a-other : goal.returns-then-a-other
returns-then-a-other c = choice_a_other _ _ _ _ _ _ c.negation-other.ensures c.if-a-other.true c.fold_and-then-a-other.ensures

pub returns-then-b-truth : goal.returns-then-b-truth
returns-then-b-truth c = choice_b_truth _ _ _ _ _ _ c.negation-other.ensures c.if-b-truth.true c.fold_or-then-b-truth.ensures

pub returns-then-b-other : goal.returns-then-b-other
returns-then-b-other c = choice_b_other _ _ _ _ _ _ c.negation-other.ensures c.if-b-other.true c.fold_or-then-b-other.ensures

pub returns-then-b-falsity : goal.returns-then-b-falsity
returns-then-b-falsity c = choice_b_falsity _ _ _ _ _ _ c.negation-falsity.ensures c.if-b-falsity.true c.fold_and-then-b-falsity.ensures

pub returns-then-b-test : goal.returns-then-b-test
returns-then-b-test c = choice_b_test _ _ _ _ _ c.if-b-test.true c.fold_and-then-b-test.ensures

pub returns-then-a-negation : goal.returns-then-a-negation
returns-then-a-negation c = choice_apart _ _ _ _ _ _ c.negation.ensures c.if-a-negation.true c.fold_xor.ensures

pub returns-then-is_negated : goal.returns-then-is_negated
returns-then-is_negated c = choice_turned _ _ _ _ _ _ c.negation-then-is_negated.ensures c.negation-then-is_negated-2.ensures

use Rattle.bit_gates.proofs.FoldLaws.{xor_same, xor_x_truth, xor_y_truth, xor_fresh}
use Rattle.bit_gates.proofs.fold.fold_xor.Goals as goal

pub returns-then-x-y : goal.returns-then-x-y
returns-then-x-y c = xor_same _ _ _ _ _ _ _ _ (record { x_is = c.positive-x.ensures; y_is = c.positive-y.ensures; p_is = c.is_negated.ensures; q_is = c.is_negated-2.ensures }) c.if-x-y.true c.signed.ensures

pub returns-then-x-truth : goal.returns-then-x-truth
returns-then-x-truth c = xor_x_truth _ _ _ _ _ _ _ _ (record { x_is = c.positive-x.ensures; y_is = c.positive-y.ensures; p_is = c.is_negated.ensures; q_is = c.is_negated-2.ensures }) c.if-x-truth.true c.signed-then-x-truth.ensures

pub returns-then-y-truth : goal.returns-then-y-truth
returns-then-y-truth c = xor_y_truth _ _ _ _ _ _ _ _ (record { x_is = c.positive-x.ensures; y_is = c.positive-y.ensures; p_is = c.is_negated.ensures; q_is = c.is_negated-2.ensures }) c.if-y-truth.true c.signed-then-y-truth.ensures

pub returns : goal.returns
returns c = xor_fresh _ _ _ _ _ _ _ _ _ (record { x_is = c.positive-x.ensures; y_is = c.positive-y.ensures; p_is = c.is_negated.ensures; q_is = c.is_negated-2.ensures }) c.min.ensures c.max.ensures

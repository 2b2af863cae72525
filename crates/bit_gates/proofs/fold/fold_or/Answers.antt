use Rattle.bit_gates.proofs.FoldLaws.{folded_or}
use Rattle.bit_gates.proofs.fold.fold_or.Goals as goal

pub returns : goal.returns
returns c = folded_or _ _ _ _ _ _ _ c.negation.ensures c.negation-2.ensures c.fold_and.ensures c.negated.ensures

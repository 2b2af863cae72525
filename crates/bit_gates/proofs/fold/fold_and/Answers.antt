use Rattle.bit_gates.proofs.FoldLaws.{folded_apart}
use Rattle.bit_gates.proofs.fold.fold_and.Goals as goal

pub returns-then-a-negation : goal.returns-then-a-negation
returns-then-a-negation c = folded_apart _ _ _ _ _ c.negation-falsity.ensures c.negation.ensures c.if-a-negation.true

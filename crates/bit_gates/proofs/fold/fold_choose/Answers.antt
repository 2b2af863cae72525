use Rattle.bit_gates.proofs.FoldLaws.{choose_turned}
use Rattle.bit_gates.proofs.fold.fold_choose.Goals as goal

pub returns-then-is_negated : goal.returns-then-is_negated
returns-then-is_negated c = choose_turned _ _ _ _ _ _ c.negation.ensures c.fold_choice.ensures

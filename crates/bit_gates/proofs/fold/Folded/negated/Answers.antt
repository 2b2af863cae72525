use Rattle.bit_gates.proofs.FoldLaws.{turned_known}
use Rattle.bit_gates.proofs.fold.Folded.negated.Goals as goal

pub returns-in-Known : goal.returns-in-Known
returns-in-Known c = turned_known _ _ _ c.in-Known.is c.negation.ensures

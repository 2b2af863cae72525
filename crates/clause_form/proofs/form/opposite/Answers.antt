use Rattle.bit_gates.proofs.LiteralLaws.{negation_inside}
use Rattle.clause_form.proofs.form.opposite.Goals as goal

pub returns : goal.returns
returns c = record { value = c.negation.ensures; inside = λ count l. rw c.negation.ensures (negation_inside _ _ l) }

use Rattle.value_terms.proofs.OperatorLaws.{lawful_at}
use Rattle.value_terms.proofs.operators.lawful_op.Goals as goal

pub returns-then-signed : goal.returns-then-signed
returns-then-signed c = lawful_at _ _ c.if-signed.true

pub returns-else-signed : goal.returns-else-signed
returns-else-signed c = lawful_at _ _ c.if-signed.false

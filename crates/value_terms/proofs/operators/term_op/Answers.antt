use Rattle.value_terms.proofs.OperatorLaws.{op_at}
use Rattle.value_terms.proofs.operators.term_op.Goals as goal

pub returns-then-signed : goal.returns-then-signed
returns-then-signed c = op_at _ _ _ _ c.in-Div.is c.if-signed.true

pub returns-else-signed : goal.returns-else-signed
returns-else-signed c = op_at _ _ _ _ c.in-Div.is c.if-signed.false

pub returns-then-signed-2 : goal.returns-then-signed-2
returns-then-signed-2 c = op_at _ _ _ _ c.in-Rem.is c.if-signed-2.true

pub returns-else-signed-2 : goal.returns-else-signed-2
returns-else-signed-2 c = op_at _ _ _ _ c.in-Rem.is c.if-signed-2.false

pub returns-then-signed-3 : goal.returns-then-signed-3
returns-then-signed-3 c = op_at _ _ _ _ c.in-Shr.is c.if-signed-3.true

pub returns-else-signed-3 : goal.returns-else-signed-3
returns-else-signed-3 c = op_at _ _ _ _ c.in-Shr.is c.if-signed-3.false

pub returns-then-signed-4 : goal.returns-then-signed-4
returns-then-signed-4 c = op_at _ _ _ _ c.in-Lt.is c.if-signed-4.true

pub returns-else-signed-4 : goal.returns-else-signed-4
returns-else-signed-4 c = op_at _ _ _ _ c.in-Lt.is c.if-signed-4.false

pub returns-then-signed-5 : goal.returns-then-signed-5
returns-then-signed-5 c = op_at _ _ _ _ c.in-Le.is c.if-signed-5.true

pub returns-else-signed-5 : goal.returns-else-signed-5
returns-else-signed-5 c = op_at _ _ _ _ c.in-Le.is c.if-signed-5.false

pub returns-then-signed-6 : goal.returns-then-signed-6
returns-then-signed-6 c = op_at _ _ _ _ c.in-Ge.is c.if-signed-6.true

pub returns-else-signed-6 : goal.returns-else-signed-6
returns-else-signed-6 c = op_at _ _ _ _ c.in-Ge.is c.if-signed-6.false

pub returns-then-signed-7 : goal.returns-then-signed-7
returns-then-signed-7 c = op_at _ _ _ _ c.in-Gt.is c.if-signed-7.true

pub returns-else-signed-7 : goal.returns-else-signed-7
returns-else-signed-7 c = op_at _ _ _ _ c.in-Gt.is c.if-signed-7.false

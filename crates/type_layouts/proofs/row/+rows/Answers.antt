use Rattle.type_layouts.proofs.RowLaws.{inner_made, own_made}
use Rattle.type_layouts.proofs.row.+rows.Goals as goal

pub push_inner-returns-clause-own : goal.push_inner-returns-clause-own
push_inner-returns-clause-own t c = own_made _ _ _ _ c.in_ok-text.ensures c.in_ok-extent.ensures.own

pub push_inner-returns-clause-inner : goal.push_inner-returns-clause-inner
push_inner-returns-clause-inner t c = inner_made _ _ _ _ c.in_ok-extent.ensures.inner

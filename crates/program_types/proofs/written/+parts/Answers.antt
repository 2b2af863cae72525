use Rattle.program_types.proofs.PartLaws.{parts_made}
use Rattle.program_types.proofs.written.+parts.Goals as goal

pub push_type-returns : goal.push_type-returns
push_type-returns t c = parts_made _ _ _ _ c.in_ok-push_parts.ensures c.in_ok-push.ensures

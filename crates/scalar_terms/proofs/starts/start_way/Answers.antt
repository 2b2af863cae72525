use Rattle.scalar_terms.proofs.StartLaws.{start_made}
use Rattle.scalar_terms.proofs.starts.start_way.Goals as goal

pub returns : goal.returns
returns c = start_made c.args.function.now c.args.terms.now c.bit.new.terms c.unset_slots.new.terms _ c.in_ok-guard.ensures c.in_ok-slots.ensures

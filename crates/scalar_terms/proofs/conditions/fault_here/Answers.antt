use Rattle.scalar_terms.proofs.LedLaws.{fault_made}
use Rattle.scalar_terms.proofs.conditions.fault_here.Goals as goal

pub returns : goal.returns
returns c = fault_made c.args.function.now c.args.terms.now c.args.way.now c.args.ways.now c.args.failures.now.items _ c.args.block.0 c.args.index c.args.class c.requires.way c.requires.ways c.requires.failures c.in_ok-note.ensures

use Rattle.kani_mir.proofs.CommandLemmas.{headline}
use Rattle.kani_mir.proofs.command.run_command.Goals as goal

pub returns-clause-headline : goal.returns-clause-headline
returns-clause-headline g c zero = headline _ _ _ _ _ _ _ _ _ c.conclude.ensures.concludes zero

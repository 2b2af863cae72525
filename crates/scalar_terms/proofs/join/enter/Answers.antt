use Rattle.std.proofs.Common.{refl}
use Rattle.scalar_terms.proofs.JoinLaws.{entry_merged, entry_new}
use Rattle.scalar_terms.proofs.join.enter.Goals as goal

pub returns-in_ok-copied-in-None : goal.returns-in_ok-copied-in-None
returns-in_ok-copied-in-None c = entry_new c.args.function.now c.args.terms.now c.args.was c.args.guard.0 c.args.slots.now _ c.in-None.is c.requires.guard c.requires.slots refl c.in_ok-copied-in-None.ensures.items

pub returns-in_ok-merged-in-Some : goal.returns-in_ok-merged-in-Some
returns-in_ok-merged-in-Some c = entry_merged c.args.function.now c.args.terms.now c.merge.new.terms c.args.was c.args.guard.0 c.args.slots.now c.in-Some.way _ c.in-Some.is c.in_ok-merged-in-Some.ensures

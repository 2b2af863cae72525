use Rattle.std.proofs.Common.{subst, sym}
use Rattle.value_terms.specs.Slots.{AreSlots}
use Rattle.scalar_terms.proofs.LedLaws.{jumped_made}
use Rattle.scalar_terms.proofs.conditions.jump.Goals as goal

pub join-requires-clause-slots : goal.join-requires-clause-slots
join-requires-clause-slots c = subst (AreSlots c.args.function.now c.args.terms.now) (sym c.as_slice.ensures.value) c.requires.way.slots

pub returns : goal.returns
returns c = jumped_made c.args.function.now c.args.terms.now c.join.new.terms c.args.way.now c.args.ways.now c.join.new.ways c.args.failures.now.items c.args.block.0 c.args.index c.args.next.0 c.requires.way c.requires.ways c.requires.failures (rw c.as_slice.ensures.value at c.in_ok-join.ensures)

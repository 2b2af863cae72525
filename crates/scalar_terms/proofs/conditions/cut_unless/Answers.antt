use Rattle.std.proofs.Common.{subst, sym}
use Rattle.value_terms.proofs.MadeLaws.{bit_kept, grown_trans}
use Rattle.value_terms.proofs.RvalueLaws.{slots_kept}
use Rattle.value_terms.specs.Slots.{AreSlots}
use Rattle.scalar_terms.proofs.JoinLaws.{way_kept}
use Rattle.scalar_terms.proofs.LedLaws.{assumed_made}
use Rattle.scalar_terms.proofs.conditions.cut_unless.Goals as goal

pub split_guard-requires-clause-guard : goal.split_guard-requires-clause-guard
split_guard-requires-clause-guard c = bit_kept c.args.terms.now c.read_condition.new.terms _ c.in_ok-condition.ensures.grown.keeps c.requires.way.guard

pub join-requires-clause-slots : goal.join-requires-clause-slots
join-requires-clause-slots c = subst (AreSlots c.args.function.now c.split_guard.new.terms) (sym c.as_slice-2.ensures.value)
    (slots_kept c.args.function.now c.args.terms.now c.split_guard.new.terms _ (grown_trans c.args.terms.now c.read_condition.new.terms c.split_guard.new.terms c.in_ok-condition.ensures.grown c.in_ok-t.ensures.grown).keeps c.requires.way.slots)

pub join-requires-clause-ways : goal.join-requires-clause-ways
join-requires-clause-ways c n way at = way_kept c.args.function.now c.args.terms.now c.split_guard.new.terms way (grown_trans c.args.terms.now c.read_condition.new.terms c.split_guard.new.terms c.in_ok-condition.ensures.grown c.in_ok-t.ensures.grown).keeps (c.requires.ways n way at)

pub returns : goal.returns
returns c = assumed_made c.args.function.now c.args.terms.now c.read_condition.new.terms c.split_guard.new.terms c.join.new.terms c.args.way.now c.args.ways.now c.join.new.ways c.args.failures.now.items _ c.args.block.0 c.args.index c.args.next.0 c.args.operand.now c.in_ok-condition.condition c.in_ok-t.t
    c.requires.way c.requires.ways c.requires.failures (rw c.as_slice.ensures.value at c.in_ok-condition.ensures) c.in_ok-t.ensures c.in_ok-note_unset.ensures (rw c.as_slice-2.ensures.value at c.in_ok-join.ensures)

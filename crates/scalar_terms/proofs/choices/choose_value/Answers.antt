use Rattle.std.proofs.Common.{subst, sym, ◌∙◌}
use Rattle.sym_terms.proofs.Grown.{Keeps-trans}
use Rattle.value_terms.specs.Slots.{AreSlots}
use Rattle.value_terms.proofs.MadeLaws.{bit_kept}
use Rattle.scalar_terms.proofs.ChoiceLaws.{choice_led, choice_slots, chosen_made}
use Rattle.scalar_terms.proofs.JoinLaws.{way_kept}
use Rattle.scalar_terms.proofs.choices.choose_value.Goals as goal

pub both-requires-clause-a_bit : goal.both-requires-clause-a_bit
both-requires-clause-a_bit c = bit_kept c.args.terms.now c.is_value.new.terms _ (Keeps-trans c.args.terms.now c.input.new.terms c.is_value.new.terms c.in_ok-word.ensures.keeps c.in_ok-valid.ensures.grown.keeps) c.requires.way.guard

pub join-requires-clause-guard : goal.join-requires-clause-guard
join-requires-clause-guard c = bit_kept c.both.new.terms c.bit.new.terms _ c.in_ok-set.ensures.grown.keeps c.in_ok-guard.ensures.bit

pub join-requires-clause-slots : goal.join-requires-clause-slots
join-requires-clause-slots c =
    let chosen = chosen_made c.args.function.now c.args.terms.now c.input.new.terms c.is_value.new.terms c.both.new.terms c.bit.new.terms c.args.block.0 c.args.kind c.args.way.now (record { set = c.in_ok-set.set; word = c.in_ok-word.word }) c.in_ok-valid.valid.0 c.in_ok-guard.guard.0
    c.requires.way.guard (rw c.width.ensures.width at c.in_ok-word.ensures) c.in_ok-valid.ensures c.in_ok-guard.ensures c.in_ok-set.ensures in
    subst (AreSlots c.args.function.now c.bit.new.terms) (sym (c.as_slice.ensures.value ∙ c.set_slot.ensures))
    (choice_slots c.args.function.now c.args.terms.now c.bit.new.terms c.args.block.0 c.args.kind c.args.way.now (record { set = c.in_ok-set.set; word = c.in_ok-word.word }) c.in_ok-guard.guard.0 c.args.destination.now c.requires.way c.requires.form chosen)

pub join-requires-clause-ways : goal.join-requires-clause-ways
join-requires-clause-ways c n way at =
    let chosen = chosen_made c.args.function.now c.args.terms.now c.input.new.terms c.is_value.new.terms c.both.new.terms c.bit.new.terms c.args.block.0 c.args.kind c.args.way.now (record { set = c.in_ok-set.set; word = c.in_ok-word.word }) c.in_ok-valid.valid.0 c.in_ok-guard.guard.0
    c.requires.way.guard (rw c.width.ensures.width at c.in_ok-word.ensures) c.in_ok-valid.ensures c.in_ok-guard.ensures c.in_ok-set.ensures in
    way_kept c.args.function.now c.args.terms.now c.bit.new.terms way chosen.keeps (c.requires.ways n way at)

pub returns : goal.returns
returns c =
    let chosen = chosen_made c.args.function.now c.args.terms.now c.input.new.terms c.is_value.new.terms c.both.new.terms c.bit.new.terms c.args.block.0 c.args.kind c.args.way.now (record { set = c.in_ok-set.set; word = c.in_ok-word.word }) c.in_ok-valid.valid.0 c.in_ok-guard.guard.0
    c.requires.way.guard (rw c.width.ensures.width at c.in_ok-word.ensures) c.in_ok-valid.ensures c.in_ok-guard.ensures c.in_ok-set.ensures in
    choice_led c.args.function.now c.args.terms.now c.bit.new.terms c.join.new.terms c.args.way.now c.args.ways.now c.join.new.ways c.args.failures.now.items c.args.block.0 c.args.index c.args.next.0 c.in_ok-guard.guard.0 c.args.kind (record { set = c.in_ok-set.set; word = c.in_ok-word.word }) c.args.destination.now
    c.requires.way c.requires.ways c.requires.failures chosen (rw c.set_slot.ensures at (rw c.as_slice.ensures.value at c.in_ok-join.ensures))

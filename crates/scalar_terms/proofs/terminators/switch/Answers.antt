use Rattle.std.proofs.Common.{subst, sym, ◌∙◌, length}
use Rattle.scalar_form.specs.Typing.{are_arms, is_target, operand_kind}
use Rattle.scalar_runs.proofs.OperandLaws.{and_left, and_right}
use Rattle.value_terms.specs.Slots.{AreSlots, slot_width}
use Rattle.value_terms.proofs.MadeLaws.{bit_kept, grown_trans}
use Rattle.value_terms.proofs.RvalueLaws.{inside_kept, slots_kept, width_read}
use Rattle.scalar_terms.specs.Switches.{AreArms}
use Rattle.scalar_terms.proofs.JoinLaws.{way_kept}
use Rattle.scalar_terms.proofs.TurnLaws.{arms_inside, switch_known, switch_made, target_inside}
use Rattle.scalar_terms.proofs.terminators.switch.Goals as goal

pub read-requires-clause-kind : goal.read-requires-clause-kind
read-requires-clause-kind c = (switch_known (operand_kind c.args.function.now c.args.operand.now) c.args.function.now c.args.block.0 c.args.arms.now c.args.otherwise c.requires.form).0

pub but_not-requires-clause-a_bit : goal.but_not-requires-clause-a_bit
but_not-requires-clause-a_bit c = bit_kept c.args.terms.now c.read.new.terms _ c.in_ok-slot.ensures.grown.keeps c.requires.way.guard

pub both-requires-clause-a_bit : goal.both-requires-clause-a_bit
both-requires-clause-a_bit c = bit_kept c.args.terms.now c.but_not.new.terms _ (grown_trans c.args.terms.now c.read.new.terms c.but_not.new.terms c.in_ok-slot.ensures.grown c.in_ok-unset.ensures.grown).keeps c.requires.way.guard

pub both-requires-clause-b_bit : goal.both-requires-clause-b_bit
both-requires-clause-b_bit c = bit_kept c.read.new.terms c.but_not.new.terms _ c.in_ok-unset.ensures.grown.keeps c.in_ok-slot.ensures.kept.set

pub note_unset-requires : goal.note_unset-requires
note_unset-requires c = bit_kept c.but_not.new.terms c.both.new.terms _ c.in_ok-goes.ensures.grown.keeps c.in_ok-unset.ensures.bit

pub switch_arms-requires-clause-inside : goal.switch_arms-requires-clause-inside
switch_arms-requires-clause-inside c =
    let known = switch_known (operand_kind c.args.function.now c.args.operand.now) c.args.function.now c.args.block.0 c.args.arms.now c.args.otherwise c.requires.form in
    target_inside c.args.function.now _ c.args.block.0 c.args.otherwise c.requires.room (and_right (are_arms c.args.function.now c.args.block.0 (slot_width (operand_kind c.args.function.now c.args.operand.now)) c.args.arms.now) (is_target c.args.function.now c.args.block.0 c.args.otherwise) known.1)

pub switch_arms-requires-clause-arms : goal.switch_arms-requires-clause-arms
switch_arms-requires-clause-arms c =
    let known = switch_known (operand_kind c.args.function.now c.args.operand.now) c.args.function.now c.args.block.0 c.args.arms.now c.args.otherwise c.requires.form in
    subst (λ w. AreArms (length c.args.ways.now) w c.args.arms.now) (sym (c.operand_width.ensures ∙ width_read c.args.function.now c.args.operand.now known.0))
    (arms_inside c.args.function.now _ c.args.block.0 _ c.args.arms.now c.requires.room (and_left (are_arms c.args.function.now c.args.block.0 (slot_width (operand_kind c.args.function.now c.args.operand.now)) c.args.arms.now) (is_target c.args.function.now c.args.block.0 c.args.otherwise) known.1))

pub switch_arms-requires-clause-word : goal.switch_arms-requires-clause-word
switch_arms-requires-clause-word c = inside_kept c.read.new.terms c.both.new.terms _ (grown_trans c.read.new.terms c.but_not.new.terms c.both.new.terms c.in_ok-unset.ensures.grown c.in_ok-goes.ensures.grown).keeps c.in_ok-slot.ensures.kept.inside

pub switch_arms-requires-clause-width : goal.switch_arms-requires-clause-width
switch_arms-requires-clause-width c = (grown_trans c.read.new.terms c.but_not.new.terms c.both.new.terms c.in_ok-unset.ensures.grown c.in_ok-goes.ensures.grown).keeps.widths_kept _ c.in_ok-slot.ensures.kept.inside ∙ c.in_ok-slot.ensures.kept.width_is ∙ sym c.operand_width.ensures

pub switch_arms-requires-clause-slots : goal.switch_arms-requires-clause-slots
switch_arms-requires-clause-slots c = subst (AreSlots c.args.function.now c.both.new.terms) (sym c.as_slice-2.ensures.value)
    (slots_kept c.args.function.now c.args.terms.now c.both.new.terms _ (grown_trans c.args.terms.now c.read.new.terms c.both.new.terms c.in_ok-slot.ensures.grown (grown_trans c.read.new.terms c.but_not.new.terms c.both.new.terms c.in_ok-unset.ensures.grown c.in_ok-goes.ensures.grown)).keeps c.requires.way.slots)

pub switch_arms-requires-clause-ways : goal.switch_arms-requires-clause-ways
switch_arms-requires-clause-ways c n way at = way_kept c.args.function.now c.args.terms.now c.both.new.terms way (grown_trans c.args.terms.now c.read.new.terms c.both.new.terms c.in_ok-slot.ensures.grown (grown_trans c.read.new.terms c.but_not.new.terms c.both.new.terms c.in_ok-unset.ensures.grown c.in_ok-goes.ensures.grown)).keeps (c.requires.ways n way at)

pub returns : goal.returns
returns c = switch_made c.args.function.now c.args.terms.now c.read.new.terms c.but_not.new.terms c.both.new.terms c.switch_arms.new.terms c.args.way.now c.args.ways.now c.switch_arms.new.ways c.args.failures.now.items _ c.args.block.0 c.args.index _ c.in_ok-unset.unset c.in_ok-slot.slot c.args.operand.now c.args.arms.now c.args.otherwise
    c.requires.way c.requires.ways c.requires.failures (rw c.as_slice.ensures.value at c.in_ok-slot.ensures) c.in_ok-unset.ensures c.in_ok-goes.ensures c.in_ok-note_unset.ensures (rw c.as_slice-2.ensures.value at c.in_ok-switch_arms.ensures)

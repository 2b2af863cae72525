use Rattle.std.proofs.Common.{sym, ◌∙◌}
use Rattle.value_terms.proofs.SlotLaws.{no_slot, read_nothing, read_slot}
use Rattle.value_terms.proofs.slots.read_local.Goals as goal

pub unreachable-requires-in-None-slot_at : goal.unreachable-requires-in-None-slot_at
unreachable-requires-in-None-slot_at c = no_slot c.args.function.now c.args.terms.now c.args.slots.now c.args.local.0 c.requires.slots c.requires.kind (sym c.in-None-slot_at.ensures)

pub returns-in-Some-slot_at : goal.returns-in-Some-slot_at
returns-in-Some-slot_at c = read_slot c.args.function.now c.args.terms.now c.args.slots.now c.args.local.0 c.in-Some.kind c.in-Some-slot_at.slot c.requires.slots (sym c.in-Some.ensures) (sym c.has_bytes.ensures ∙ c.if-has_bytes.true) (sym c.in-Some-slot_at.ensures)

pub returns-in_ok-slot-in-Some : goal.returns-in_ok-slot-in-Some
returns-in_ok-slot-in-Some c = read_nothing c.args.function.now c.args.terms.now c.nothing.new.terms c.args.slots.now c.args.local.0 c.in-Some.kind _ (sym c.in-Some.ensures) (sym c.has_bytes.ensures ∙ c.if-has_bytes.false) c.in_ok-slot-in-Some.ensures

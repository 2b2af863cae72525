use Rattle.std.proofs.Common.{arith, ap, ◌≡◌, ◌∙◌}
use Rattle.scalar_runs.specs.Look.{locals_end}
use Rattle.scalar_terms.proofs.StartLaws.{more_unset, none_unset}
use Rattle.scalar_terms.proofs.starts.unset_slots.Goals as goal

pub loop-number-init : goal.loop-number-init
loop-number-init c = rw c.new-slots.ensures.items (none_unset c.args.function.now c.args.terms.now)

pub overflow_cast-local : goal.overflow_cast-local
overflow_cast-local c =
    let all : c.locals_end-number-end.result ≡ locals_end c.args.function.now.locals = c.locals_end-number-end.ensures ∙ ap locals_end c.as_slice.ensures in
    omega (arith, all, c.requires, c.loop-number-test.true)

pub loop-number-preserved : goal.loop-number-preserved
loop-number-preserved c = rw c.in_ok-push.ensures.items
    (more_unset c.args.function.now c.args.terms.now c.loop-number.terms c.unset.new.terms c.loop-number.slots.items c.in_ok-slot.slot c.loop-number.number c.local_width.result c.local_width.ensures.width c.loop-number.invariant c.in_ok-slot.ensures)

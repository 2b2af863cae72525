use Rattle.std.proofs.Common.{get_or, refl}
use Rattle.mir_ir.specs.declared.tree.Arm.{Arm}
use Rattle.function_types.proofs.Patterns.{arm_on}
use Rattle.function_types.proofs.arms.arms_fit.Goals as goal

pub loop-place-preserved : goal.loop-place-preserved
loop-place-preserved c =
    let other : Arm = record { number = 0; target = record { 0 = 0 } } in
    arm_on c.args.body.now c.args.width c.loop-place.before.keys c.insert.new.self.keys c.args.arms.now c.loop-place.place (get_or c.args.arms.now c.loop-place.place other) other c.in_ok-is_new.is_new _
    c.loop-place-test.true refl c.in_ok-is_new.ensures.added c.in_ok-is_new.ensures.keys c.in-Ok.ensures c.loop-place.invariant

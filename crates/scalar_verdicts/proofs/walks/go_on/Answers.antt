use Rattle.std.proofs.Common.{arith}
use Rattle.scalar_verdicts.proofs.WalkLaws.{gone_goes, gone_start, gone_stop, stop_is, too_far, walk_room}
use Rattle.scalar_verdicts.proofs.walks.go_on.Goals as goal

pub loop-init : goal.loop-init
loop-init c = record { gone = gone_start _ _ c.requires.walk; steps = omega arith }

pub overflow_add-walk : goal.overflow_add-walk
overflow_add-walk c = let room = walk_room _ _ _ _ c.requires.form c.loop.invariant.gone.walk in omega (arith, room)

pub returns-in_default : goal.returns-in_default
returns-in_default c = record {
  gone = gone_stop _ _ _ _ _ _ c.loop.invariant.gone c.take_step.ensures c.in_default.not-Went;
  stop = stop_is _ _ _ _ c.take_step.ensures c.in_default.not-Went;
}

pub loop-preserved : goal.loop-preserved
loop-preserved c = record {
  gone = gone_goes _ _ _ _ c.requires.form c.loop.invariant.gone c.in-Went.ensures;
  steps = omega (arith, c.loop.invariant.steps);
}

pub unreachable-requires : goal.unreachable-requires
unreachable-requires c = too_far _ _ _ _ c.requires.form c.loop.invariant.gone c.loop.invariant.steps c.loop-test.false

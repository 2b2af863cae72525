use Rattle.std.proofs.Common.{rules, arith, ◌-◌}
use Rattle.canonical_text.proofs.Openings.{openings_turn}
use Rattle.canonical_text.proofs.places.push_openings.Goals as goal

pub loop-at-preserved : goal.loop-at-preserved
loop-at-preserved c = (
  omega (arith, c.loop-at.invariant.0),
  openings_turn c.args.steps.now (c.loop-at.at - 1) c.loop-at.at c.index-steps-at.result c.loop-at.out.items _ _
      (omega (arith, c.loop-at-test.true)) (omega (arith, c.loop-at-test.true, c.loop-at.invariant.0)) (search rules) c.loop-at.invariant.1 (search rules),
)

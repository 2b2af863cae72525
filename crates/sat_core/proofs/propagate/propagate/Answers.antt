use Rattle.std.proofs.Common.{arith}
use Rattle.sat_core.proofs.ProgressLemmas.{steps_few}
use Rattle.sat_core.proofs.propagate.propagate.Goals as goal

pub loop-front-smaller : goal.loop-front-smaller
loop-front-smaller c =
    let watching = c.loop-front.invariant.watching in
    omega (arith, c.loop-front-test.true, c.len.ensures, steps_few c.args.clauses.now.variables c.loop-front.trail.steps watching.search.fit)

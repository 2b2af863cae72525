use Rattle.std.proofs.Common.{arith}
use Rattle.sat_core.proofs.ProgressLemmas.{progress-bound}
use Rattle.sat_core.proofs.search.meet_conflict.Goals as goal

pub returns-then-len-budget : goal.returns-then-len-budget
returns-then-len-budget c =
    let old = c.args.search.now in
    record {
      spent = c.requires.search.gained;
      count = omega (arith, c.len.ensures.len, c.if-len-budget.true);
      few = omega (arith, c.requires.search.counted, progress-bound c.args.clauses.now.variables old.trail.steps);
      short = omega (arith, c.len.ensures.len, c.len.ensures.few);
    }

use Rattle.std.proofs.Common.{arith}
use Rattle.region_pool.specs.Refutation.{FollowsAt}
use Rattle.region_pool.proofs.Holding.{refuted_has_none}
use borrow.Author.Count.{below_more}
use Rattle.refute_check.proofs.acceptance.accept.Goals as goal

-- one line more follows
pub loop-line-preserved : goal.loop-line-preserved
loop-line-preserved c =
    let same = c.check_line.ensures.checker in
    record {
      follows = below_more (FollowsAt c.args.clauses.now c.args.log.now) c.loop-line.line c.loop-line.invariant.follows (c.check_line.ensures.follows.0 c.if-not-check_line.false);
      variables = rw same c.loop-line.invariant.variables;
      room = rw same c.loop-line.invariant.room;
    }

-- no assignment satisfies what the log refutes
pub returns-then-ends_empty-clause-sound : goal.returns-then-ends_empty-clause-sound
returns-then-ends_empty-clause-sound c refuted =
    refuted_has_none c.args.clauses.now c.args.log.now (record { follows = λ number below. c.loop-line.invariant.follows number (omega arith); ends = c.ends_empty.ensures.0 c.if-ends_empty.true })

use Rattle.sat_core.proofs.PrepareLemmas.{settles_open}
use Rattle.sat_core.proofs.prepare.settle.Goals as goal

pub returns-in_ok-push-in-Open : goal.returns-in_ok-push-in-Open
returns-in_ok-push-in-Open c =
    settles_open c.args.clauses.now c.args.log.now c.args.trail.now c.args.pair c.args.number c.requires.search c.requires.forced c.requires.number c.requires.pair c.push.new.self c.in_ok-push-in-Open.ensures.ok c.if-pair.false c.in-Open.ensures

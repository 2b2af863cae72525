use Rattle.sat_core.specs.Known.{known_clauses}
use Rattle.sat_core.proofs.ResolveLemmas.{Keeps-resolve}
use Rattle.sat_core.proofs.roles.resolve_kept.Goals as goal

pub returns-in-Kept-clause-derives : goal.returns-in-Kept-clause-derives
returns-in-Kept-clause-derives c =
    Keeps-resolve (known_clauses c.args.clauses.now c.args.log.now) c.args.trail.now.steps c.args.at c.args.roles.now c.resolve.new.roles c.resolve.ensures

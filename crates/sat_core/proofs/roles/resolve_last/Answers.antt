use Rattle.sat_core.specs.Known.{known_clauses}
use Rattle.sat_core.proofs.ResolveLemmas.{Keeps-resolve}
use Rattle.sat_core.proofs.roles.resolve_last.Goals as goal

pub returns-clause-derives : goal.returns-clause-derives
returns-clause-derives c =
    Keeps-resolve (known_clauses c.args.clauses.now c.args.log.now) c.args.trail.now.steps c.args.at c.args.roles.now c.resolve.new.roles c.resolve.ensures

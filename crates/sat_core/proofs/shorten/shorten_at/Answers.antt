use Rattle.sat_core.specs.Known.{known_clauses}
use Rattle.sat_core.proofs.ResolveLemmas.{Keeps-resolve}
use Rattle.sat_core.proofs.shorten.shorten_at.Goals as goal

pub returns-then-is_covered-clause-derives : goal.returns-then-is_covered-clause-derives
returns-then-is_covered-clause-derives c =
    Keeps-resolve (known_clauses c.args.clauses.now c.args.log.now) c.args.trail.now.steps c.args.at c.args.roles.now c.resolve.new.roles c.resolve.ensures

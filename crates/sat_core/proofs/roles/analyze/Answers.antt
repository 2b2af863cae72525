use Rattle.sat_core.specs.Known.{known_clauses}
use Rattle.sat_core.proofs.ResolveLemmas.{Keeps-then}
use Rattle.sat_core.proofs.roles.analyze.Goals as goal

pub returns-clause-derives : goal.returns-clause-derives
returns-clause-derives c =
    let known = known_clauses c.args.clauses.now c.args.log.now in
    let steps = c.args.trail.now.steps in
    let one = c.resolve_to_one-asserted.new.roles in
    let two = c.shorten.new.roles in
    Keeps-then known steps c.args.roles.now two c.resolve_below.new.roles (Keeps-then known steps c.args.roles.now one two c.resolve_to_one-asserted.ensures.derives c.shorten.ensures.derives) c.resolve_below.ensures.derives

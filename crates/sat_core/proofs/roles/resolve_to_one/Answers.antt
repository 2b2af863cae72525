use Rattle.sat_core.specs.Known.{known_clauses}
use Rattle.sat_core.proofs.ResolveLemmas.{Keeps-then}
use Rattle.sat_core.proofs.roles.resolve_to_one.Goals as goal

pub loop-roles-preserved : goal.loop-roles-preserved
loop-roles-preserved c = record {
  keeps = Keeps-then (known_clauses c.args.clauses.now c.args.log.now) c.args.trail.now.steps c.args.roles.now c.loop-roles.roles c.resolve_last-at.new.roles c.loop-roles.invariant.keeps c.resolve_last-at.ensures.derives;
  last = c.resolve_last-at.ensures.last;
}

use Rattle.std.proofs.Common.{◌-◌, ℕ, arith, ◌∙◌}
use Rattle.sat_core.specs.Known.{known_clauses}
use Rattle.sat_core.proofs.ResolveLemmas.{Keeps-then}
use Rattle.sat_core.proofs.shorten.shorten.Goals as goal

pub loop-at-preserved : goal.loop-at-preserved
loop-at-preserved c =
    let known = known_clauses c.args.clauses.now c.args.log.now in
    let at : ℕ = c.loop-at.at - 1 in
    record {
      within = omega (arith, c.loop-at.invariant.within);
      keeps = Keeps-then known c.args.trail.now.steps c.args.roles.now c.loop-at.roles c.shorten_at.new.roles c.loop-at.invariant.keeps c.shorten_at.ensures.derives;
      later = λ k h. c.shorten_at.ensures.later k (omega (arith, c.loop-at.invariant.within)) ∙ c.loop-at.invariant.later k h;
    }

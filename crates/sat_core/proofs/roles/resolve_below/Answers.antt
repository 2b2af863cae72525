use Rattle.std.proofs.Common.{◌≡◌, ◌+◌, ◌-◌, ℕ, arith, subst, ◌∙◌}
use Rattle.sat_core.specs.Known.{known_clauses}
use Rattle.sat_core.specs.Roles.{NoneKept}
use Rattle.sat_core.proofs.ResolveLemmas.{Keeps-then, none_kept_more}
use Rattle.sat_core.proofs.roles.resolve_below.Goals as goal

pub loop-at-preserved : goal.loop-at-preserved
loop-at-preserved c =
    let known = known_clauses c.args.clauses.now c.args.log.now in
    let old = c.loop-at.roles in
    let new = c.resolve_kept.new.roles in
    let at : ℕ = c.loop-at.at - 1 in
    let e : c.loop-at.at ≡ at + 1 = omega (arith, c.loop-at-test.true) in
    let none : NoneKept old (at + 1) c.args.high = subst (λ (n : ℕ). NoneKept old n c.args.high) e c.loop-at.invariant.none in
    record {
      within = omega (arith, c.loop-at.invariant.within);
      keeps = Keeps-then known c.args.trail.now.steps c.args.roles.now old new c.loop-at.invariant.keeps c.resolve_kept.ensures.derives;
      none = none_kept_more old new at c.args.high none c.resolve_kept.ensures.here c.resolve_kept.ensures.later;
      later = λ k h. c.resolve_kept.ensures.later k (omega (arith, c.loop-at.invariant.within)) ∙ c.loop-at.invariant.later k h;
    }

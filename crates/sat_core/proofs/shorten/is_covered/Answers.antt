use Rattle.std.proofs.Common.{ℕ, get_or, sym, subst}
use Rattle.region_pool.specs.Clauses.{IsLiteral}
use Rattle.sat_core.proofs.Negations.{negation-fits}
use Rattle.sat_core.proofs.shorten.is_covered.Goals as goal

pub place-place-requires : goal.place-place-requires
place-place-requires c =
    let v : ℕ = c.args.trail.now.variables in
    let fits : IsLiteral v (get_or c.args.clause.now c.loop-literal.literal-index 0) = c.requires.literals c.loop-literal.literal-index 0 c.loop-literal-test.true in
    subst (λ (n : ℕ). IsLiteral v n) (sym c.negation_of.ensures) (negation-fits v _ fits)

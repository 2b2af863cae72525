use Rattle.std.proofs.Common.{ℕ, sym, subst}
use Rattle.region_pool.specs.Clauses.{IsLiteral}
use Rattle.sat_core.proofs.Negations.{negation-fits}
use Rattle.sat_core.proofs.trail.Trail.is_false.Goals as goal

pub is_true-requires : goal.is_true-requires
is_true-requires c =
    let v : ℕ = c.args.self.now.variables in
    subst (λ (n : ℕ). IsLiteral v n) (sym c.negation_of.ensures) (negation-fits v c.args.literal c.requires)

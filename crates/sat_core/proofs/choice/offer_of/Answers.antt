use Rattle.std.proofs.Common.{◌+◌, ℕ, List, Option, None, take, get_or, sym, subst}
use Rattle.std.proofs.lemmas.List.{take_all}
use Rattle.std.proofs.lemmas.List.Elements.{Contains-get_or}
use Rattle.region_pool.specs.Clauses.{IsLiteral}
use Rattle.sat_core.specs.Choice.{ChanceIs}
use Rattle.sat_core.specs.Steps.{literals_of_steps}
use Rattle.sat_core.proofs.ChoiceLemmas.{chance_false}
use Rattle.sat_core.proofs.Negations.{negation-fits}
use Rattle.sat_core.proofs.choice.offer_of.Goals as goal
use Rattle.sat_core.proofs.choice.offer_of.Goals.{in-False, in-Open}

pub place-requires : goal.place-requires
place-requires c =
    let v : ℕ = c.args.trail.now.variables in
    let fits : IsLiteral v (get_or c.args.clause.now c.loop-literal.literal-index 0) = c.requires.literals c.loop-literal.literal-index 0 c.loop-literal-test.true in
    subst (λ (n : ℕ). IsLiteral v n) (sym c.negation_of.ensures) (negation-fits v _ fits)

pub loop-literal-preserved : goal.loop-literal-preserved
loop-literal-preserved c =
    let i : ℕ = c.loop-literal.literal-index in
    let clause = c.args.clause.now in
    let assigned = literals_of_steps c.args.trail.now.steps in
    let within = c.loop-literal-test.true in
    elim c.match-truth.branch [
      | in-False w ↦ subst (λ (o : Option ℕ). ChanceIs assigned clause (take (i + 1) clause) o) (sym w.open-is) (chance_false assigned clause i c.loop-literal.open within c.loop-literal.invariant w.in-False.ensures.0)
      | in-Open w ↦ subst (λ (o : Option ℕ). ChanceIs assigned clause (take (i + 1) clause) o) (sym w.open-is) (record { member = Contains-get_or clause i 0 within; free = w.in-Open.ensures })
    ]

pub unreachable-requires : goal.unreachable-requires
unreachable-requires c =
    let clause = c.args.clause.now in
    let assigned = literals_of_steps c.args.trail.now.steps in
    let seen : ChanceIs assigned clause (take c.loop-literal.literal-index clause) None = subst (λ (o : Option ℕ). ChanceIs assigned clause (take c.loop-literal.literal-index clause) o) c.in-None.is c.loop-literal.invariant in
    c.requires.stands (subst (λ (s : List ℕ). ChanceIs assigned clause s None) (take_all c.loop-literal.literal-index clause c.loop-literal-test.false) seen)

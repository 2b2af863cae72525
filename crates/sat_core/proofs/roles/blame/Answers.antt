use Rattle.std.proofs.Common.{◌≡◌, ◌≢◌, ◌<◌, ◌+◌, ◌-◌, ℕ, List, length, get_or, take, sym, subst, ◌∙◌, arith}
use Rattle.region_pool.specs.Clauses.{IsLiteral}
use Rattle.region_pool.specs.Literals.{negation}
use Rattle.sat_core.specs.declared.roles.Role.{Role}
use Rattle.sat_core.specs.Roles.{Blames}
use Rattle.sat_core.specs.Steps.{step_at}
use Rattle.sat_core.proofs.RoleLemmas.{blames_none, blames_one}
use Rattle.sat_core.proofs.Negations.{negation-fits}
use Rattle.sat_core.proofs.roles.blame.Goals as goal
use Rattle.sat_core.proofs.roles.blame.Goals.{then-place-ne0, else-place-ne0}

pub place-place-requires : goal.place-place-requires
place-place-requires c =
    let v : ℕ = c.args.trail.now.variables in
    let fits : IsLiteral v (get_or c.args.clause.now c.loop-literal.literal-index 0) = c.requires.literals c.loop-literal.literal-index 0 c.loop-literal-test.true in
    subst (λ (n : ℕ). IsLiteral v n) (sym c.negation_of.ensures) (negation-fits v _ fits)

pub loop-literal-preserved : goal.loop-literal-preserved
loop-literal-preserved c =
    let i : ℕ = c.loop-literal.literal-index in
    let steps = c.args.trail.now.steps in
    let clause = c.args.clause.now in
    let old = c.args.roles.now in
    let within = c.loop-literal-test.true in
    let place : ℕ = c.place-place.result in
    let is = c.negation_of.ensures in
    let there = c.place-place.ensures.there in
    elim c.if-place-ne0.branch [
      | then-place-ne0 w ↦
          let at : ℕ = place - 1 in
          let e : place ≡ at + 1 = omega (arith, w.if-place-ne0.true) in
          let inside : at < length steps = omega (arith, c.place-place.ensures.within) in
          let only : (other : ℕ) → other < length steps → (step_at steps other).literal ≡ negation (get_or clause i 0) → other ≡ at = λ other h f. let g = there other h (f ∙ sym is) in omega arith in
          subst (λ (r : List Role). Blames steps (take (i + 1) clause) old r) (sym w.roles-is) (blames_one steps clause i within old c.loop-literal.roles c.loop-literal.invariant at w.mark.new.roles inside (c.place-place.ensures.here at e ∙ is) only w.mark.ensures)
      | else-place-ne0 w ↦
          let none : (other : ℕ) → other < length steps → (step_at steps other).literal ≢ negation (get_or clause i 0) = λ other h f. let g = there other h (f ∙ sym is) in let z : place ≡ 0 = w.if-place-ne0.false in omega arith in
          subst (λ (r : List Role). Blames steps (take (i + 1) clause) old r) (sym w.roles-is) (blames_none steps clause i within old c.loop-literal.roles c.loop-literal.invariant none)
    ]

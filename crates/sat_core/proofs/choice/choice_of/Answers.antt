use Rattle.std.proofs.Common.{◌<◌, ◌+◌, ℕ, List, Option, length, arith, sym, subst, ◌∙◌, ap, not}
use Rattle.region_pool.specs.Clauses.{AreLiterals}
use Rattle.region_pool.specs.Refutation.{IsFalsified}
use Rattle.sat_core.specs.Choice.{ChoiceIs, IsSatisfied}
use Rattle.sat_core.specs.Steps.{literals_of_steps}
use Rattle.sat_core.proofs.ChoiceLemmas.{chance_fits, choice_satisfied, choice_kept}
use Rattle.sat_core.proofs.choice.choice_of.Goals as goal
use Rattle.sat_core.proofs.choice.choice_of.Goals.{in-Satisfied, in-Chance+then-is_none, in-Chance+else-is_none+else-latest-best}

pub offer_of-requires-clause-stands : goal.offer_of-requires-clause-stands
offer_of-requires-clause-stands c f =
    let assigned = literals_of_steps c.args.trail.now.steps in
    let within : c.loop-number.number < length c.args.clauses.now.clauses = omega arith in
    c.requires.stand c.loop-number.number within (subst (λ (s : List ℕ). IsFalsified assigned s) c.clause.ensures.clause f)

pub loop-number-preserved : goal.loop-number-preserved
loop-number-preserved c =
    let i : ℕ = c.loop-number.number in
    let v : ℕ = c.args.trail.now.variables in
    let clauses = c.args.clauses.now.clauses in
    let assigned = literals_of_steps c.args.trail.now.steps in
    let fit : AreLiterals v c.clause.result.now = subst (λ (n : ℕ). AreLiterals n c.clause.result.now) (sym c.requires.variables) c.clause.ensures.literals in
    elim c.match-offer_of.branch [
      | in-Satisfied w ↦ subst (λ (o : Option ℕ). ChoiceIs v assigned clauses (i + 1) o) (sym w.choice-is) (choice_satisfied v assigned clauses i c.loop-number.choice c.loop-number.invariant (subst (λ (s : List ℕ). IsSatisfied assigned s) c.clause.ensures.clause w.in-Satisfied.ensures))
      | in-Chance+then-is_none w ↦ subst (λ (o : Option ℕ). ChoiceIs v assigned clauses (i + 1) o) (sym w.choice-is) (chance_fits v assigned c.clause.result.now w.in-Chance.literal fit w.in-Chance.ensures)
      | in-Chance+else-is_none+else-latest-best w ↦ subst (λ (o : Option ℕ). ChoiceIs v assigned clauses (i + 1) o) (sym w.choice-is) (choice_kept v assigned clauses i (i + 1) c.loop-number.choice (w.is_none.ensures ∙ ap not w.if-is_none.false) c.loop-number.invariant)
    ]

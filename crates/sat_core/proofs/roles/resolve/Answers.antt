use Rattle.std.proofs.Common.{◌≡◌, ℕ, List, set, sym, ap, ◌∙◌, subst}
use Rattle.sat_core.specs.Known.{known_clauses}
use Rattle.sat_core.specs.declared.trail.Cause.TheVariants.{Clause}
use Rattle.sat_core.specs.declared.trail.Step.{Step}
use Rattle.sat_core.specs.declared.roles.Role.TheVariants.{Resolved}
use Rattle.sat_core.specs.Roles.{Blames}
use Rattle.sat_core.specs.Steps.{step_at}
use Rattle.sat_core.proofs.ResolveLemmas.{cause_clause, Resolves-blames}
use Rattle.sat_core.proofs.roles.resolve.Goals as goal

pub returns : goal.returns
returns c =
    let known = known_clauses c.args.clauses.now c.args.log.now in
    let steps = c.args.trail.now.steps in
    let at : ℕ = c.args.at in
    let n : ℕ = c.in-Clause.number in
    let cause : (step_at steps at).cause ≡ Clause n = ap (λ (s : Step). s.cause) (sym c.step.ensures) ∙ c.in-Clause.is in
    let unit = cause_clause known steps at n c.requires.search.caused c.requires.at cause in
    let blames : Blames steps c.known_clause.result.now (set c.args.roles.now at Resolved) c.blame.new.roles = c.blame.ensures in
    Resolves-blames c.args.clauses.now.variables known steps c.requires.search.fit at n c.requires.at unit.1 c.args.roles.now c.blame.new.roles c.requires.long cause (subst (λ (s : List ℕ). Blames steps s (set c.args.roles.now at Resolved) c.blame.new.roles) c.known_clause.ensures.clause blames)

use Rattle.std.proofs.Common.{◌<◌, ◌++◌, ℕ, List, length, sym, ap, ◌∙◌, arith}
use Rattle.sat_core.specs.declared.trail.Step.{Step}
use Rattle.sat_core.specs.Learned.{hints_of_role}
use Rattle.sat_core.specs.Roles.{role_at}
use Rattle.sat_core.specs.Steps.{step_at}
use Rattle.sat_core.proofs.GatherLemmas.{gather-more}
use Rattle.sat_core.proofs.learn.write_hints.Goals as goal

pub loop-at-preserved : goal.loop-at-preserved
loop-at-preserved c =
    let steps = c.args.trail.now.steps in
    let roles = c.args.roles.now in
    let at : ℕ = c.loop-at.at in
    let h : at < length steps = omega (arith, c.len-at-end.ensures) in
    let more = gather-more hints_of_role steps roles at (sym c.requires) h in
    let cause = ap (λ (s : Step). hints_of_role (role_at roles at) (record { literal = (step_at steps at).literal; cause = s.cause })) c.step.ensures in
    c.in_ok-write_hint.ensures (step_at steps at).literal ∙ ap (λ (s : List ℕ). c.loop-at.hints.items ++ s) cause ∙ ap (λ (s : List ℕ). s ++ hints_of_role (role_at roles at) (step_at steps at)) c.loop-at.invariant ∙ sym more

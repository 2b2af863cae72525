use Rattle.std.proofs.Common.{ap, ◌∙◌}
use Rattle.region_pool.specs.Literals.{negation}
use Rattle.sat_core.specs.declared.trail.Step.{Step}
use Rattle.sat_core.proofs.PassLemmas.{pass_starts, running_inside}
use Rattle.sat_core.proofs.propagate.pass.Goals as goal

pub loop-at-init : goal.loop-at-init
loop-at-init c =
    let watching = c.args.watching.now in
    pass_starts c.args.clauses.now c.args.log.now c.args.trail.now watching.pairs.items watching.lists c.args.front c.negation_of-literal.result c.requires.watching c.requires.front
    (c.negation_of-literal.ensures ∙ ap (λ (s : Step). negation s.literal) c.step.ensures)

pub len-requires : goal.len-requires
len-requires c =
    let at = c.loop-at in
    running_inside c.args.clauses.now c.args.log.now at.trail at.watching.pairs.items at.watching.lists (record { front = c.args.front; literal = c.negation_of-literal.result; at = at.at }) at.invariant.running

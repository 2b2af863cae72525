use Rattle.std.proofs.Common.{◌≡◌, ◌+◌, drop, flat_map, length}
use Rattle.mir_program.specs.Joined.{written}
use Rattle.mir_program.specs.Mentions.{step_types}
use Rattle.decl_counts.proofs.taking.take_steps.Given as goal

abbrev pub invariant-loop-step : goal.invariant-loop-step
invariant-loop-step l = l.rest + length (flat_map (step_types written) l.steps) ≡ l.initial.rest + length (flat_map (step_types written) (drop l.step-index l.steps))

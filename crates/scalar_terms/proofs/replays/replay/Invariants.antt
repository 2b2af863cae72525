use Rattle.std.proofs.Common.{get_or}
use Rattle.scalar_runs.specs.Engine.{configuration}
use Rattle.scalar_terms.specs.Replays.{HasCome}
use Rattle.scalar_terms.proofs.replays.replay.Given as goal

abbrev pub invariant-loop-made : goal.invariant-loop-made
invariant-loop-made l = HasCome l.function (λ n. get_or l.inputs n 0) l.made (configuration l.state) l.choices.items

-- What is kept of a run, and what a step does to it.
use Rattle.std.specs.Prelude.{◌≡◌}
use Rattle.scalar_runs.specs.Run as run
use Rattle.scalar_runs.specs.declared.step.State.{State}
use Rattle.scalar_runs.specs.declared.step.Step.{Step}
use Rattle.scalar_runs.specs.declared.step.Step.TheVariants as step

-- where a run stands, in the terms of runs
abbrev pub configuration : State → run.Configuration
configuration s = record { block = s.block.0; index = s.index; values = s.values.items }

-- The step that was made is the one that is wanted, and none but Went moves the state.
abbrev pub Does : run.Stepped → Step → run.Configuration → run.Configuration → Type 0
Does wanted step.Went old new = wanted ≡ run.Goes new
Does wanted step.Ended old new = (wanted ≡ run.Ends) × (new ≡ old)
Does wanted step.Cut old new = (wanted ≡ run.Cuts) × (new ≡ old)
Does wanted (step.Faulted c) old new = (wanted ≡ run.Faults c) × (new ≡ old)
Does wanted (step.Chooses kind destination next) old new = (wanted ≡ run.Chooses kind destination.0 next.0) × (new ≡ old)
Does wanted step.Stuck old new = (wanted ≡ run.Stuck) × (new ≡ old)

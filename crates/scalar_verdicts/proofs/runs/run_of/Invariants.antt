use Rattle.std.proofs.Common.{drop}
use Rattle.scalar_verdicts.specs.Runs.{IsPassed}
use Rattle.scalar_verdicts.proofs.runs.run_of.Given as goal

abbrev pub invariant-loop-run : goal.invariant-loop-run
invariant-loop-run l = IsPassed l.runs l.breach (drop l.run-index l.runs)

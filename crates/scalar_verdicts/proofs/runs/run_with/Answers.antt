use Rattle.std.proofs.Common.{get_or, subst}
use Rattle.scalar_terms.specs.Replays.{IsReplay}
use Rattle.scalar_verdicts.proofs.runs.run_with.Goals as goal

pub unreachable-requires : goal.unreachable-requires
unreachable-requires c = (subst (IsReplay c.args.function.now (λ n. get_or c.args.inputs.now n 0)) c.in-None.is c.in_ok-run.ensures) c.requires.faults.breach c.requires.faults.faults

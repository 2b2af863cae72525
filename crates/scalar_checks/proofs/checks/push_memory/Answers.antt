use Rattle.scalar_checks.proofs.Pushes.{appended_thrice}
use Rattle.scalar_checks.proofs.checks.push_memory.Goals as goal

pub returns : goal.returns
returns c = appended_thrice _ _ _ _ _ _ _ c.in_ok-push_class.ensures c.in_ok-push_class-2.ensures c.in_ok-push_class-3.ensures

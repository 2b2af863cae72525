use Rattle.std.proofs.Common.{◌≡◌}
use Rattle.scalar_checks.specs.Checks.{checks_below}
use Rattle.scalar_checks.proofs.checks.checks_of.Given as goal

abbrev pub invariant-loop-number : goal.invariant-loop-number
invariant-loop-number l = l.checks.items ≡ checks_below l.function l.number

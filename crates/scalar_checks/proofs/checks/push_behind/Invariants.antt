use Rattle.std.proofs.Common.{◌≡◌, ◌+◌, ◌<◌, ◌^◌, ◌++◌, length}
use Rattle.scalar_checks.specs.Checks.{checks_behind}
use Rattle.scalar_checks.proofs.checks.push_behind.Given as goal

abbrev pub invariant-loop-left : goal.invariant-loop-left
invariant-loop-left l = record { count : l.at + length l.left < 2 ^ 32; rest : l.checks.items ++ checks_behind l.block l.at l.left l.last ≡ l.fn.checks.items ++ checks_behind l.block l.index l.statements l.last }

abbrev pub decreases-loop-left : goal.decreases-loop-left
decreases-loop-left l = length l.left

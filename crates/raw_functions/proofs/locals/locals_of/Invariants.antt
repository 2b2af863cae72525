use Rattle.std.proofs.Common.{◌≡◌}
use Rattle.raw_functions.specs.Meant.{locals_of}
use Rattle.raw_functions.proofs.locals.locals_of.Given as goal

abbrev pub invariant-loop-local : goal.invariant-loop-local
invariant-loop-local l = l.locals.items ≡ locals_of l.yielded

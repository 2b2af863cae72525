use Rattle.std.proofs.Common.{◌≡◌}
use Rattle.raw_functions.specs.Meant.{others_of}
use Rattle.raw_functions.proofs.locals.others_of.Given as goal

abbrev pub invariant-loop-declared : goal.invariant-loop-declared
invariant-loop-declared l = l.locals.items ≡ others_of l.yielded

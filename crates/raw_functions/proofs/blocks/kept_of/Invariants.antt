use Rattle.std.proofs.Common.{◌≡◌}
use Rattle.raw_functions.specs.Meant.{kept_of}
use Rattle.raw_functions.proofs.blocks.kept_of.Given as goal

abbrev pub invariant-loop-statement : goal.invariant-loop-statement
invariant-loop-statement l = l.kept.items ≡ kept_of l.yielded

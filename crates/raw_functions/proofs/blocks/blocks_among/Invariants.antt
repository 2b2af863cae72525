use Rattle.std.proofs.Common.{◌≡◌}
use Rattle.raw_functions.specs.Steps.{is_number}
use Rattle.raw_functions.specs.Meant.{blocks_among}
use Rattle.raw_functions.proofs.blocks.blocks_among.Given as goal

abbrev pub invariant-loop-block : goal.invariant-loop-block
invariant-loop-block l = l.made.items ≡ blocks_among (is_number l.edges.keys) l.yielded

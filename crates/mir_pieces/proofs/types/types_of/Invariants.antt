use Rattle.std.proofs.Common.{◌≡◌}
use Rattle.mir_grammar.specs.Names.{types_of}
use Rattle.mir_pieces.proofs.types.types_of.Given as goal

abbrev pub invariant-loop-named : goal.invariant-loop-named
invariant-loop-named l = l.types.items ≡ types_of l.yielded

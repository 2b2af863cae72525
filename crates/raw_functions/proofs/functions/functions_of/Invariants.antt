use Rattle.std.proofs.Common.{◌≡◌}
use Rattle.mir_lex.specs.Places.{text_place}
use Rattle.raw_functions.specs.Meant.{functions_of}
use Rattle.raw_functions.proofs.functions.functions_of.Given as goal

abbrev pub invariant-loop-function : goal.invariant-loop-function
invariant-loop-function l = (l.functions.items ≡ functions_of l.text l.yielded) × (l.place ≡ text_place l.text l.from)

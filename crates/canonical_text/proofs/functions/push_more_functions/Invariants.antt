use Rattle.std.proofs.Common.{◌≡◌, ◌++◌, drop}
use Rattle.canonical_text.specs.Functions.{more_functions}
use Rattle.canonical_text.proofs.functions.push_more_functions.Given as goal

abbrev pub invariant-loop-function : goal.invariant-loop-function
invariant-loop-function l = l.out.items ++ more_functions (drop l.function-index l.functions) ≡ l.initial.out.items ++ more_functions l.functions

use Rattle.std.proofs.Common.{◌≡◌, ◌++◌, drop}
use Rattle.canonical_text.specs.Functions.{more_parameters}
use Rattle.canonical_text.proofs.functions.push_more_parameters.Given as goal

abbrev pub invariant-loop-parameter : goal.invariant-loop-parameter
invariant-loop-parameter l = l.out.items ++ more_parameters (drop l.parameter-index l.parameters) ≡ l.initial.out.items ++ more_parameters l.parameters

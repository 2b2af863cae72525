use Rattle.std.proofs.Common.{◌≡◌, ◌++◌, drop}
use Rattle.canonical_text.specs.Functions.{lets_text}
use Rattle.canonical_text.proofs.functions.push_lets.Given as goal

abbrev pub invariant-loop-local : goal.invariant-loop-local
invariant-loop-local l = l.out.items ++ lets_text (drop l.local-index l.locals) ≡ l.initial.out.items ++ lets_text l.locals

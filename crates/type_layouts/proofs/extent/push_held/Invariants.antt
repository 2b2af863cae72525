use Rattle.std.proofs.Common.{◌≡◌, ◌++◌, drop}
use Rattle.type_layouts.proofs.extent.push_held.Given as goal

abbrev pub invariant-loop-held : goal.invariant-loop-held
invariant-loop-held l = l.out ++ drop l.held-index l.more ≡ l.initial.out ++ l.more

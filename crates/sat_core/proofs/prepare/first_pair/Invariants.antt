use Rattle.std.proofs.Common.{◌≡◌, All, take}
use Rattle.sat_core.proofs.prepare.first_pair.Given as goal

abbrev pub invariant-loop-literal : goal.invariant-loop-literal
invariant-loop-literal l = All (λ x. x ≡ l.first) (take l.literal-index l.clause)

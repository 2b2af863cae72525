use Rattle.std.proofs.Common.{◌≡◌, ◌⊎◌, All, take}
use Rattle.region_pool.specs.Refutation.{IsFalse}
use Rattle.sat_core.specs.Steps.{literals_of_steps}
use Rattle.sat_core.proofs.propagate.free_literal.Given as goal

abbrev pub invariant-loop-literal : goal.invariant-loop-literal
invariant-loop-literal l = All (λ x. (x ≡ l.other) ⊎ IsFalse (literals_of_steps l.trail.steps) x) (take l.literal-index l.clause)

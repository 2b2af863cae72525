use Rattle.std.proofs.Common.{◌≡◌, ◌+◌, length, arith}
use Rattle.sat_core.proofs.TrailLemmas.{IsPlaced-push}
use Rattle.sat_core.proofs.trail.Trail.push.Goals as goal

pub invariant_of-self-2 : goal.invariant_of-self-2
invariant_of-self-2 c =
    let items = c.in_ok-push.ensures.items in
    let old = c.self.inside in
    let count : c.len.result ≡ length old.steps.items + 1 = omega (arith, c.in_ok-push.ensures.len, old.steps.ok.0) in
    rw (items, count) (IsPlaced-push old.variables old.places.items old.steps.items _ c.self.invariant (rw (← c.self.view_is) at c.requires.literal) (rw (← c.self.view_is) at c.requires.open))

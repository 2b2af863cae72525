use Rattle.std.proofs.Common.{ℕ, subst}
use Rattle.region_pool.specs.Clauses.{IsLiteral}
use Rattle.sat_core.proofs.TurnLemmas.{decided_goes}
use Rattle.sat_core.proofs.search.decide.Goals as goal

pub returns-in_ok-push-in-Some : goal.returns-in_ok-push-in-Some
returns-in_ok-push-in-Some c budget =
    let input = c.args.clauses.now in
    let old = c.args.search.now in
    let choice = c.in-Some.ensures in
    let fits : IsLiteral input.variables c.in-Some.literal = subst (λ (v : ℕ). IsLiteral v c.in-Some.literal) c.requires.watching.search.variables choice.fits in
    let next = decided_goes input old.log old.trail old.watching.pairs.items old.watching.lists old.front c.requires.watching c.requires.complete c.in-Some.literal c.push.new.self fits choice.free c.in_ok-push-in-Some.ensures.ok in
    record { watching = next.watching; further = next.further }

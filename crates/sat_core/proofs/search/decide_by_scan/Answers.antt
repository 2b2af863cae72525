use Rattle.std.proofs.Common.{ℕ, List, [], sym, subst}
use Rattle.region_pool.specs.Clauses.{IsLiteral}
use Rattle.region_pool.specs.Refutation.{IsFalsified}
use Rattle.sat_core.specs.Steps.{literals_of_steps}
use Rattle.sat_core.proofs.SearchLemmas.{input_known, satisfied_here}
use Rattle.sat_core.proofs.TurnLemmas.{complete_closed, decided_goes}
use Rattle.sat_core.proofs.search.decide_by_scan.Goals as goal

pub choice_of-requires-clause-stand : goal.choice_of-requires-clause-stand
choice_of-requires-clause-stand c number h f =
    let input = c.args.clauses.now in
    let old = c.args.search.now in
    let known = input_known input old.log number h in
    let closed = complete_closed input old.log old.trail old.watching.pairs.items old.watching.lists old.front c.requires.watching c.requires.complete in
    (closed number [] known.1).0 (subst (λ (s : List ℕ). IsFalsified (literals_of_steps old.trail.steps) s) (sym known.0) f)

pub returns-in_ok-push-in-Some : goal.returns-in_ok-push-in-Some
returns-in_ok-push-in-Some c budget =
    let input = c.args.clauses.now in
    let old = c.args.search.now in
    let choice = c.in-Some.ensures in
    let fits : IsLiteral input.variables c.in-Some.literal = subst (λ (v : ℕ). IsLiteral v c.in-Some.literal) c.requires.watching.search.variables choice.fits in
    let next = decided_goes input old.log old.trail old.watching.pairs.items old.watching.lists old.front c.requires.watching c.requires.complete c.in-Some.literal c.push.new.self fits choice.free c.in_ok-push-in-Some.ensures.ok in
    record { watching = next.watching; further = next.further }

pub returns-in-None : goal.returns-in-None
returns-in-None c budget = satisfied_here c.args.clauses.now c.args.search.now.log c.args.search.now.trail c.requires.watching.search c.in-None.ensures

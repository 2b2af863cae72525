use Rattle.std.proofs.Common.{ℕ, List, Contains, length, set, sym, ap, ◌∙◌, subst}
use Rattle.region_pool.specs.Clauses.{IsLiteral}
use Rattle.watch_lists.specs.declared.lists.Watch.{Watch}
use Rattle.watch_lists.specs.Lists.{list_at}
use Rattle.sat_core.specs.declared.propagate.Visit.TheVariants.{Stays}
use Rattle.sat_core.specs.Passing.{VisitIs}
use Rattle.sat_core.specs.Progress.{progress}
use Rattle.sat_core.specs.Steps.{literals_of_steps}
use Rattle.sat_core.proofs.PassLemmas.{stays_blocked, stays_alone, stays_beside, other_read, other_watched, other_fits}
use Rattle.sat_core.proofs.propagate.look_at.Goals as goal

pub returns-then-is_true : goal.returns-then-is_true
returns-then-is_true c =
    let watching = c.args.watching.now in
    let trail = c.args.trail.now in
    stays_blocked c.args.clauses.now c.args.log.now trail watching.pairs.items watching.lists c.args.place c.requires.running c.requires.at
    (subst (λ (w : Watch). Contains (literals_of_steps trail.steps) w.blocker) c.get-watch.ensures (c.is_true.ensures.0 c.if-is_true.true))

pub returns-then-other-place : goal.returns-then-other-place
returns-then-other-place c =
    let watching = c.args.watching.now in
    let trail = c.args.trail.now in
    let is = other_read c.args.clauses.now c.args.log.now trail watching.pairs.items watching.lists c.args.place c.requires.running c.requires.at c.get-watch.result c.index.result.now c.other_of-other.result c.get-watch.ensures c.index.ensures c.other_of-other.ensures in
    stays_alone c.args.clauses.now c.args.log.now trail watching.pairs.items watching.lists c.args.place c.requires.running c.requires.at c.other_of-other.result is c.if-other-place.true

pub is_true-requires-2 : goal.is_true-requires-2
is_true-requires-2 c =
    let watching = c.args.watching.now in
    let trail = c.args.trail.now in
    let is = other_read c.args.clauses.now c.args.log.now trail watching.pairs.items watching.lists c.args.place c.requires.running c.requires.at c.get-watch.result c.index.result.now c.other_of-other.result c.get-watch.ensures c.index.ensures c.other_of-other.ensures in
    subst (λ (v : ℕ). IsLiteral v c.other_of-other.result) (sym c.requires.running.search.variables)
    (other_fits c.args.clauses.now c.args.log.now trail watching.pairs.items watching.lists c.args.place c.requires.running c.requires.at c.other_of-other.result is)

pub returns-then-is_true-2 : goal.returns-then-is_true-2
returns-then-is_true-2 c =
    let watching = c.args.watching.now in
    let input = c.args.clauses.now in
    let log = c.args.log.now in
    let trail = c.args.trail.now in
    let place = c.args.place in
    let before : ℕ = progress input.variables trail.steps in
    let long : ℕ = length (list_at watching.lists place.literal) in
    let other : ℕ = c.other_of-other.result in
    let is = other_read input log trail watching.pairs.items watching.lists place c.requires.running c.requires.at c.get-watch.result c.index.result.now other c.get-watch.ensures c.index.ensures c.other_of-other.ensures in
    let watched = other_watched input log trail watching.pairs.items watching.lists place c.requires.running c.requires.at other is in
    let next = stays_beside input log trail watching.pairs.items watching.lists place c.requires.running c.requires.at other watched (c.is_true-2.ensures.0 c.if-is_true-2.true) in
    let lists = c.set.ensures ∙ ap (λ (w : Watch). set watching.lists place.literal (set (list_at watching.lists place.literal) place.at (record { clause = w.clause; blocker = other }))) c.get-watch.ensures in
    subst (λ (l : List (List Watch)). VisitIs input log before long trail watching.pairs.items l place Stays) (sym lists) next

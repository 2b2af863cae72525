use Rattle.std.proofs.Common.{◌≡◌, ◌⊎◌, ℕ, true, false, List, All, Contains, length, set, sym, ◌∙◌, subst}
use Rattle.region_pool.specs.Clauses.{IsLiteral}
use Rattle.region_pool.specs.Refutation.{IsFalse}
use Rattle.watch_lists.specs.declared.lists.Watch.{Watch}
use Rattle.watch_lists.specs.Lists.{list_at}
use Rattle.sat_core.specs.declared.propagate.Visit.TheVariants.{Stays, Moves}
use Rattle.sat_core.specs.declared.watching.Pair.{Pair}
use Rattle.sat_core.specs.Passing.{VisitIs}
use Rattle.sat_core.specs.Progress.{progress}
use Rattle.sat_core.specs.Steps.{literals_of_steps}
use Rattle.sat_core.specs.Trail.{Steps}
use Rattle.sat_core.proofs.PassLemmas.{looked_fits, moves_on, finds_conflict, forces_other}
use Rattle.sat_core.proofs.propagate.look_into.Goals as goal

pub is_false-requires : goal.is_false-requires
is_false-requires c =
    let watching = c.args.watching.now in
    subst (λ (v : ℕ). IsLiteral v c.args.other) (sym c.requires.running.search.variables)
    (looked_fits c.args.clauses.now c.args.log.now c.args.trail.now watching.pairs.items watching.lists c.args.place c.requires.running c.requires.at c.args.number c.args.other c.requires.clause)

pub push-requires-clause-literal : goal.push-requires-clause-literal
push-requires-clause-literal c =
    let watching = c.args.watching.now in
    subst (λ (v : ℕ). IsLiteral v c.args.other) (sym c.requires.running.search.variables)
    (looked_fits c.args.clauses.now c.args.log.now c.args.trail.now watching.pairs.items watching.lists c.args.place c.requires.running c.requires.at c.args.number c.args.other c.requires.clause)

pub returns-then-is_false : goal.returns-then-is_false
returns-then-is_false c =
    let watching = c.args.watching.now in
    let assigned = literals_of_steps c.args.trail.now.steps in
    finds_conflict c.args.clauses.now c.args.log.now c.args.trail.now watching.pairs.items watching.lists c.args.place c.requires.running c.requires.at c.args.number c.args.other c.requires.clause
    (subst (λ (s : List ℕ). All (λ x. (x ≡ c.args.other) ⊎ IsFalse assigned x) s) c.known_clause.ensures.clause c.in-None.ensures)
    (c.is_false.ensures.0 c.if-is_false.true)

pub returns-in_ok-rewatch-in-Some : goal.returns-in_ok-rewatch-in-Some
returns-in_ok-rewatch-in-Some c =
    let watching = c.args.watching.now in
    let input = c.args.clauses.now in
    let log = c.args.log.now in
    let trail = c.args.trail.now in
    let place = c.args.place in
    let before : ℕ = progress input.variables trail.steps in
    let long : ℕ = length (list_at watching.lists place.literal) in
    let next = moves_on input log trail watching.pairs.items watching.lists place c.requires.running c.requires.at c.args.number c.args.other c.requires.clause c.in-Some.free
    (subst (λ (s : List ℕ). Contains s c.in-Some.free) c.known_clause.ensures.clause c.in-Some.ensures.0) c.in-Some.ensures.1 c.in-Some.ensures.2 in
    subst (λ (p : List Pair). VisitIs input log before long trail p c.rewatch.new.self.lists place Moves) (sym c.in_ok-rewatch-in-Some.ensures.pairs)
    (subst (λ (l : List (List Watch)). VisitIs input log before long trail (set watching.pairs.items c.args.number (record { first = c.args.other; second = c.in-Some.free })) l place Moves) (sym c.in_ok-rewatch-in-Some.ensures.lists) next)

pub returns-in_ok-push-in-None : goal.returns-in_ok-push-in-None
returns-in_ok-push-in-None c =
    let watching = c.args.watching.now in
    let input = c.args.clauses.now in
    let log = c.args.log.now in
    let trail = c.args.trail.now in
    let place = c.args.place in
    let assigned = literals_of_steps trail.steps in
    let next = forces_other input log trail watching.pairs.items watching.lists place c.requires.running c.requires.at c.args.number c.args.other c.requires.clause
    (subst (λ (s : List ℕ). All (λ x. (x ≡ c.args.other) ⊎ IsFalse assigned x) s) c.known_clause.ensures.clause c.in-None.ensures)
    (λ f. let e : false ≡ true = sym c.if-is_false.false ∙ c.is_false.ensures.1 f in absurd (cc)) in
    subst (λ (t : Steps). VisitIs input log (progress input.variables trail.steps) (length (list_at watching.lists place.literal)) t watching.pairs.items watching.lists place Stays) (sym c.in_ok-push-in-None.ensures.ok) next

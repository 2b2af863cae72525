use Rattle.std.proofs.Common.{◌≢◌, ◌<◌, length, get_or, arith, sym, ◌∙◌}
use Rattle.std.proofs.lemmas.List.{get_or_read}
use Rattle.region_pool.specs.Clauses.{IsLiteral}
use Rattle.region_pool.specs.Literals.{negation}
use Rattle.sat_core.proofs.Negations.{negation-fits}
use Rattle.sat_core.proofs.PlaceLemmas.{truth_true, truth_false, truth_open}
use Rattle.sat_core.proofs.trail.Trail.truth.Goals as goal

pub index-requires-else-index-ne0 : goal.index-requires-else-index-ne0
index-requires-else-index-ne0 c =
    let places = c.self.inside.places in
    let fits : IsLiteral c.self.inside.variables c.args.literal = rw (← c.self.view_is) at c.requires in
    let there = negation-fits c.self.inside.variables c.args.literal fits in
    omega (arith, places.ok.0, c.self.invariant.size, c.negation_of.ensures)

pub returns-then-index-ne0 : goal.returns-then-index-ne0
returns-then-index-ne0 c =
    let old = c.self.inside in
    let fits : IsLiteral old.variables c.args.literal = rw (← c.self.view_is) at c.requires in
    let within : c.args.literal < length old.places.items = omega (arith, c.self.invariant.size) in
    let read = get_or_read old.places.items _ _ within c.index.ensures 0 in
    let h : get_or old.places.items c.args.literal 0 ≢ 0 = λ e. c.if-index-ne0.true (read ∙ e) in
    rw (← c.self.view_is) (truth_true old.variables old.places.items old.steps.items c.args.literal c.self.invariant h)

pub returns-then-index-ne0-2 : goal.returns-then-index-ne0-2
returns-then-index-ne0-2 c =
    let old = c.self.inside in
    let fits : IsLiteral old.variables c.args.literal = rw (← c.self.view_is) at c.requires in
    let within : c.args.literal < length old.places.items = omega (arith, c.self.invariant.size) in
    let read = get_or_read old.places.items _ _ within c.index.ensures 0 in
    let there : negation c.args.literal < length old.places.items = omega (arith, c.self.invariant.size, negation-fits old.variables c.args.literal fits) in
    let read2 = get_or_read old.places.items _ _ there (rw c.negation_of.ensures at c.index-else-index-ne0.ensures) 0 in
    rw (← c.self.view_is) (truth_false old.variables old.places.items old.steps.items c.args.literal c.self.invariant (sym read ∙ c.if-index-ne0.false) (λ e. c.if-index-ne0-2.true (read2 ∙ e)))

pub returns-else-index-ne0-2 : goal.returns-else-index-ne0-2
returns-else-index-ne0-2 c =
    let old = c.self.inside in
    let fits : IsLiteral old.variables c.args.literal = rw (← c.self.view_is) at c.requires in
    let within : c.args.literal < length old.places.items = omega (arith, c.self.invariant.size) in
    let read = get_or_read old.places.items _ _ within c.index.ensures 0 in
    let there : negation c.args.literal < length old.places.items = omega (arith, c.self.invariant.size, negation-fits old.variables c.args.literal fits) in
    let read2 = get_or_read old.places.items _ _ there (rw c.negation_of.ensures at c.index-else-index-ne0.ensures) 0 in
    rw (← c.self.view_is) (truth_open old.variables old.places.items old.steps.items c.args.literal c.self.invariant (sym read ∙ c.if-index-ne0.false) (sym read2 ∙ c.if-index-ne0-2.false))

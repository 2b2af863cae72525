use Rattle.std.proofs.Common.{ℕ, Option, None, length, subst}
use Rattle.sat_core.specs.Passing.{PropagationIs}
use Rattle.sat_core.specs.Progress.{progress}
use Rattle.sat_core.proofs.TurnLemmas.{turn_from}
use Rattle.sat_core.proofs.search.take_turn.Goals as goal

pub returns-in_ok-turn-in-None : goal.returns-in_ok-turn-in-None
returns-in_ok-turn-in-None c =
    let input = c.args.clauses.now in
    let before : ℕ = progress input.variables c.args.search.now.trail.steps in
    let now : ℕ = progress input.variables c.propagate.new.trail.steps in
    let new = c.propagate.new in
    let done : PropagationIs input c.args.search.now.log before new.trail new.watching.pairs.items new.watching.lists (length new.trail.steps) None =
    subst (λ (o : Option ℕ). PropagationIs input c.args.search.now.log before new.trail new.watching.pairs.items new.watching.lists (length new.trail.steps) o) c.in-None.is c.in_ok-found.ensures in
    turn_from input c.args.budget before now c.decide.new.search c.in_ok-turn-in-None.turn done.0.further (c.in_ok-turn-in-None.ensures c.args.budget)

use Rattle.std.proofs.Common.{ℕ, Bool, MatchBool, arith, subst}
use Rattle.region_pool.specs.Refutation.{Refutes}
use Rattle.region_pool.proofs.Holding.{refuted_has_none}
use Rattle.sat_core.specs.declared.search.Turn.{Turn}
use Rattle.sat_core.specs.Progress.{progress}
use Rattle.sat_core.specs.Search.{AreSatisfied}
use Rattle.sat_core.specs.Turn.{Goes, TurnIs, IsWatchingAll}
use Rattle.sat_core.proofs.ProgressLemmas.{progress-bound}
use Rattle.sat_core.proofs.ValueLemmas.{satisfies}
use Rattle.sat_core.proofs.solver.solve.Goals as goal

pub loop-search-smaller : goal.loop-search-smaller
loop-search-smaller c =
    let input = c.args.clauses.now in
    let new = c.take_turn.new.search in
    let before : ℕ = progress input.variables c.loop-search.search.trail.steps in
    let next : Goes input before new = subst (λ (t : Turn). TurnIs input c.args.budget before new t) c.in-Going.is c.in_ok-take_turn.ensures in
    omega (arith, next.further, progress-bound input.variables new.trail.steps)

pub returns-in-Satisfied-clause-answer : goal.returns-in-Satisfied-clause-answer
returns-in-Satisfied-clause-answer c =
    let input = c.args.clauses.now in
    let new = c.take_turn.new.search in
    let before : ℕ = progress input.variables c.loop-search.search.trail.steps in
    let done : AreSatisfied input new.trail = subst (λ (t : Turn). TurnIs input c.args.budget before new t) c.in-Satisfied.is c.in_ok-take_turn.ensures in
    let values = c.in_ok-values_of-in-Satisfied.field-0 in
    (omega (arith, values.ok.0, c.in_ok-values_of-in-Satisfied.ensures.long, done.variables), satisfies input new.trail values.items done c.in_ok-values_of-in-Satisfied.ensures)

pub returns-in-Refuted-clause-sound : goal.returns-in-Refuted-clause-sound
returns-in-Refuted-clause-sound c =
    let input = c.args.clauses.now in
    let new = c.take_turn.new.search in
    let before : ℕ = progress input.variables c.loop-search.search.trail.steps in
    let refutes : Refutes input new.log = subst (λ (t : Turn). TurnIs input c.args.budget before new t) c.in-Refuted.is c.in_ok-take_turn.ensures in
    refuted_has_none input new.log refutes

pub returns-then-branch-clause-sound : goal.returns-then-branch-clause-sound
returns-then-branch-clause-sound c =
    let input = c.args.clauses.now in
    refuted_has_none input c.begin.new.search.log
    (subst (λ (b : Bool). MatchBool b (Refutes input c.begin.new.search.log) (IsWatchingAll input c.begin.new.search)) c.if-branch.true c.in_ok-begin.ensures)

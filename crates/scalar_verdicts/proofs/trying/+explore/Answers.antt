use Rattle.std.proofs.Common.{Vec, Global, ◌≡◌, ◌+◌, ◌≤◌, arith, get_or, subst, sym}
use Rattle.scalar_runs.specs.Engine.{configuration}
use Rattle.scalar_terms.specs.declared.replays.FaultRun.{FaultRun}
use Rattle.scalar_verdicts.specs.Runs.{IsReplayed}
use Rattle.scalar_verdicts.specs.Walks.{Explored, Tried}
use Rattle.scalar_verdicts.proofs.WalkLaws.{explored_back, explored_cuts, explored_ends, explored_faults, explored_stuck, tried_all, tried_more, walk_room}
use Rattle.scalar_verdicts.proofs.trying.+explore.Goals as goal
use Rattle.scalar_verdicts.proofs.trying.+explore.Goals.{explore-in-Went, explore-in-Ended, explore-in-Cut, explore-in-Stuck, explore-in-Faulted+in_ok-note_replay-in-Faulted, explore-in-Chooses+in_ok-try_values-in-Chooses}

pub explore-returns : goal.explore-returns
explore-returns t c = explored_back c.args.function.now (configuration c.args.walk.state) (configuration c.go_on.new.walk.state) _ _ c.go_on.ensures.gone.covers (elim c.match-go_on.branch [
  | explore-in-Went w ↦ absurd w.in-Went.ensures.stop
  | explore-in-Ended w ↦ subst (λ (rs : Vec FaultRun Global). Explored c.args.function.now (configuration c.go_on.new.walk.state) c.args.runs.now.items rs.items) (sym w.runs-is) (explored_ends _ _ _ w.in-Ended.ensures.stop)
  | explore-in-Cut w ↦ subst (λ (rs : Vec FaultRun Global). Explored c.args.function.now (configuration c.go_on.new.walk.state) c.args.runs.now.items rs.items) (sym w.runs-is) (explored_cuts _ _ _ w.in-Cut.ensures.stop)
  | explore-in-Stuck w ↦ subst (λ (rs : Vec FaultRun Global). Explored c.args.function.now (configuration c.go_on.new.walk.state) c.args.runs.now.items rs.items) (sym w.runs-is) (explored_stuck _ _ _ w.in-Stuck.ensures.stop)
  | explore-in-Faulted+in_ok-note_replay-in-Faulted w ↦ subst (λ (rs : Vec FaultRun Global). Explored c.args.function.now (configuration c.go_on.new.walk.state) c.args.runs.now.items rs.items) (sym w.runs-is)
      (explored_faults c.args.function.now (configuration c.go_on.new.walk.state) c.go_on.new.walk.numbers.items c.go_on.new.walk.steps _ _ _ c.requires.form c.go_on.ensures.gone.walk w.in-Faulted.ensures.stop
      (subst (λ xs. IsReplayed c.args.function.now (λ n. get_or xs n 0) c.args.runs.now.items w.note_replay.new.runs.items) w.as_slice.ensures.value w.in_ok-note_replay-in-Faulted.ensures))
  | explore-in-Chooses+in_ok-try_values-in-Chooses w ↦ subst (λ (rs : Vec FaultRun Global). Explored c.args.function.now (configuration c.go_on.new.walk.state) c.args.runs.now.items rs.items) (sym w.runs-is) w.in_ok-try_values-in-Chooses.ensures
])

pub try_value-explore-requires : goal.try_value-explore-requires
try_value-explore-requires t c =
    let room : c.args.walk.now.steps + 1 ≤ 50000 = walk_room _ _ _ _ c.requires.form c.requires.walk in
    let steps : c.in_ok-branch.branch.steps ≡ c.args.walk.now.steps + 1 = c.in_ok-branch.ensures.steps in
    (omega arith, (c.requires.form, c.in_ok-branch.ensures.walk))

pub try_values-loop-number-preserved : goal.try_values-loop-number-preserved
try_values-loop-number-preserved t c = tried_more _ _ _ _ _ _ _ _ _ c.loop-number.invariant c.in_ok-try_value.ensures

pub try_values-returns : goal.try_values-returns
try_values-returns t c =
    let all : c.loop-number.number ≡ c.greatest_value-last.result = omega arith in
    tried_all _ _ _ _ _ c.greatest_value-last.result _ _ c.requires.chooses c.greatest_value-last.ensures
    (tried_more _ _ _ _ _ _ _ _ _
    (subst (λ n. Tried c.args.function.now (configuration c.args.walk.now.state) c.args.kind c.args.destination.0 c.args.next.0 n c.args.runs.now.items c.loop-number.runs.items) all c.loop-number.invariant)
    c.in_ok-try_value-2.ensures)

use Rattle.std.proofs.Common.{Vec, Global, refl, sym, ap, subst, arith, ◌+◌, ◌≡◌, ◌≤◌, get_or, []}
use Rattle.scalar_runs.specs.declared.kinds.Choice.{Choice}
use Rattle.scalar_runs.specs.declared.step.State.{State}
use Rattle.scalar_runs.specs.Engine.{configuration}
use Rattle.scalar_runs.specs.Run.{Configuration}
use Rattle.scalar_terms.specs.Replays.{HasCome}
use Rattle.scalar_terms.proofs.ReplayLaws.{chosen_on, come_on, come_start, faulted_at, none_cut, none_ended, none_longer, none_made, none_stuck}
use Rattle.scalar_terms.proofs.replays.replay.Goals as goal
use Rattle.scalar_terms.proofs.replays.replay.Goals.{in-Went, in-Chooses+in_ok-is_made-in-Chooses+else-not-is_made}

pub loop-made-init : goal.loop-made-init
loop-made-init c = rw c.new-choices.ensures.items (subst (λ s. HasCome c.args.function.now (λ n. get_or c.args.inputs.now n 0) 0 s []) (sym c.in_ok-state.ensures) (come_start c.args.function.now (λ n. get_or c.args.inputs.now n 0)))

pub loop-made-preserved : goal.loop-made-preserved
loop-made-preserved c = elim c.match-take_step.branch [
  | in-Went w ↦
      subst (λ (s : State). HasCome c.args.function.now (λ n. get_or c.args.inputs.now n 0) (c.loop-made.made + 1) (configuration s) c.match-take_step.choices.items) (sym w.state-is)
      (subst (λ (cs : Vec Choice Global). HasCome c.args.function.now (λ n. get_or c.args.inputs.now n 0) (c.loop-made.made + 1) (configuration c.take_step.new.state) cs.items) (sym w.choices-is)
      (come_on c.args.function.now (λ n. get_or c.args.inputs.now n 0) c.loop-made.made (configuration c.loop-made.state) (configuration c.take_step.new.state) c.loop-made.choices.items c.loop-made.invariant w.in-Went.ensures))
  | in-Chooses+in_ok-is_made-in-Chooses+else-not-is_made w ↦
      subst (λ (s : State). HasCome c.args.function.now (λ n. get_or c.args.inputs.now n 0) (c.loop-made.made + 1) (configuration s) c.match-take_step.choices.items) (sym w.state-is)
      (subst (λ (cs : Vec Choice Global). HasCome c.args.function.now (λ n. get_or c.args.inputs.now n 0) (c.loop-made.made + 1) (configuration w.choose.new.state) cs.items) (sym w.choices-is)
      (chosen_on c.args.function.now (λ n. get_or c.args.inputs.now n 0) c.loop-made.made (configuration c.loop-made.state) (configuration c.take_step.new.state) (configuration w.choose.new.state) c.loop-made.choices.items w.choose.new.choices.items w.in-Chooses.kind w.in-Chooses.destination.0 w.in-Chooses.next.0 w.in_ok-is_made-in-Chooses.is_made
      c.loop-made.invariant w.in-Chooses.ensures.0 w.in-Chooses.ensures.1 w.if-not-is_made.false w.in_ok-is_made-in-Chooses.ensures))
]

pub breach_at-requires : goal.breach_at-requires
breach_at-requires c =
    let same : c.take_step.new.state.index ≡ c.loop-made.state.index = ap (λ (s : Configuration). s.index) c.in-Faulted.ensures.1 in
    let few : c.loop-made.state.index ≤ c.loop-made.made = c.loop-made.invariant.index in
    omega (arith, same, few, c.loop-made-test.true)

pub returns-in-Ended : goal.returns-in-Ended
returns-in-Ended c = none_ended c.args.function.now (λ n. get_or c.args.inputs.now n 0) c.loop-made.made (configuration c.loop-made.state) c.loop-made.choices.items c.loop-made.invariant c.in-Ended.ensures.0

pub returns-in-Cut : goal.returns-in-Cut
returns-in-Cut c = none_cut c.args.function.now (λ n. get_or c.args.inputs.now n 0) c.loop-made.made (configuration c.loop-made.state) c.loop-made.choices.items c.loop-made.invariant c.in-Cut.ensures.0

pub returns-in-Stuck : goal.returns-in-Stuck
returns-in-Stuck c = none_stuck c.args.function.now (λ n. get_or c.args.inputs.now n 0) c.loop-made.made (configuration c.loop-made.state) c.loop-made.choices.items c.loop-made.invariant c.in-Stuck.ensures.0

pub returns-in-Faulted : goal.returns-in-Faulted
returns-in-Faulted c = faulted_at c.args.function.now (λ n. get_or c.args.inputs.now n 0) c.loop-made.made (configuration c.loop-made.state) (configuration c.take_step.new.state) c.loop-made.choices.items c.in-Faulted.class _ c.requires c.loop-made.invariant c.in-Faulted.ensures.0 c.in-Faulted.ensures.1 c.breach_at.ensures refl refl

pub returns-then-not-is_made : goal.returns-then-not-is_made
returns-then-not-is_made c = none_made c.args.function.now (λ n. get_or c.args.inputs.now n 0) c.loop-made.made (configuration c.loop-made.state) (configuration c.take_step.new.state) (configuration c.choose.new.state) c.loop-made.choices.items c.choose.new.choices.items c.in-Chooses.kind c.in-Chooses.destination.0 c.in-Chooses.next.0 c.in_ok-is_made-in-Chooses.is_made
    c.loop-made.invariant c.in-Chooses.ensures.0 c.in-Chooses.ensures.1 c.if-not-is_made.true c.in_ok-is_made-in-Chooses.ensures

pub unreachable-requires : goal.unreachable-requires
unreachable-requires c =
    let all : c.loop-made.made ≡ 50000 = omega (arith, c.loop-made.auto.made-end, c.loop-made-test.false) in
    none_longer c.args.function.now (λ n. get_or c.args.inputs.now n 0) (configuration c.loop-made.state) c.loop-made.choices.items c.requires
    (subst (λ n. HasCome c.args.function.now (λ n. get_or c.args.inputs.now n 0) n (configuration c.loop-made.state) c.loop-made.choices.items) all c.loop-made.invariant)

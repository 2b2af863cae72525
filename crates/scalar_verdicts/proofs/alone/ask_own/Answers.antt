use Rattle.std.proofs.Common.{◌≡◌, ◌<◌, ◌^◌, refl, subst}
use Rattle.term_queries.specs.Queries.{IsAnswer, IsKnown, effort_after}
use Rattle.scalar_verdicts.proofs.LeftLaws.{few_of, never_own, own_faults, own_somehow, query_of, reached_of}
use Rattle.scalar_verdicts.proofs.StatusLaws.{risen_spent}
use Rattle.scalar_verdicts.proofs.alone.ask_own.Goals as goal

pub run_with-requires-clause-faults : goal.run_with-requires-clause-faults
run_with-requires-clause-faults c = own_somehow _ _ _ _ _ _ _ _ c.requires.own c.in_ok-root.ensures (subst (IsAnswer c.any_of.new.terms c.in_ok-root.root.0 c.args.budget) c.in-Can.is c.in_ok-ask.ensures.answer) c.as_slice.ensures.value

pub returns-in-Never-clause-told : goal.returns-in-Never-clause-told
returns-in-Never-clause-told c = never_own _ _ _ _ _ _ c.requires.inputs c.requires.own c.in_ok-root.ensures (subst (IsAnswer c.any_of.new.terms c.in_ok-root.root.0 c.args.budget) c.in-Never.is c.in_ok-ask.ensures.answer)

pub returns-in-Spent-clause-told : goal.returns-in-Spent-clause-told
returns-in-Spent-clause-told c =
    let few = few_of c.args.budget (λ more. subst IsKnown c.in-Spent.is (c.in_ok-ask.ensures.unlimited more)) in
    (refl, query_of _ _ _ _ _ _ _ c.requires.own c.in_ok-root.ensures few (c.requires.many few) (subst (IsAnswer c.any_of.new.terms c.in_ok-root.root.0 c.args.budget) c.in-Spent.is c.in_ok-ask.ensures.answer))

pub returns-in-Spent-clause-rises : goal.returns-in-Spent-clause-rises
returns-in-Spent-clause-rises c = risen_spent _ _ c.args.budget (subst (λ n. n < 2 ^ 64) c.spent-spent.ensures c.spent-spent.type_inv) (subst (λ a. c.ask.new.effort ≡ effort_after c.args.effort.now c.args.budget a) c.in-Spent.is c.in_ok-ask.ensures.effort)

pub returns-in_ok-run-in-Can-clause-told : goal.returns-in_ok-run-in-Can-clause-told
returns-in_ok-run-in-Can-clause-told c = reached_of _ _ _ _ (own_faults _ _ _ _ _ _ _ _ c.requires.own c.in_ok-root.ensures (subst (IsAnswer c.any_of.new.terms c.in_ok-root.root.0 c.args.budget) c.in-Can.is c.in_ok-ask.ensures.answer) c.as_slice.ensures.value) c.in_ok-run-in-Can.ensures

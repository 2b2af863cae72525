use Rattle.std.proofs.Common.{◌≡◌, ◌<◌, ◌^◌, subst}
use Rattle.term_queries.specs.Queries.{IsAnswer, effort_after}
use Rattle.scalar_verdicts.proofs.LeftLaws.{faults_somehow, never_told}
use Rattle.scalar_verdicts.proofs.StatusLaws.{risen_spent}
use Rattle.scalar_verdicts.proofs.rounds.ask_any.Goals as goal

pub run_with-requires-clause-faults : goal.run_with-requires-clause-faults
run_with-requires-clause-faults c = faults_somehow _ _ _ _ _ _ _ c.requires.told c.in_ok-root.ensures (subst (IsAnswer c.any_of.new.terms c.in_ok-root.root.0 c.args.budget) c.in-Can.is c.in_ok-ask.ensures.answer) c.as_slice.ensures.value

pub returns-in-Never-clause-round : goal.returns-in-Never-clause-round
returns-in-Never-clause-round c = never_told _ _ _ _ c.in_ok-root.ensures (subst (IsAnswer c.any_of.new.terms c.in_ok-root.root.0 c.args.budget) c.in-Never.is c.in_ok-ask.ensures.answer)

pub returns-in-Spent-clause-rises : goal.returns-in-Spent-clause-rises
returns-in-Spent-clause-rises c = risen_spent _ _ c.args.budget (subst (λ n. n < 2 ^ 64) c.spent-spent.ensures c.spent-spent.type_inv) (subst (λ a. c.ask.new.effort ≡ effort_after c.args.effort.now c.args.budget a) c.in-Spent.is c.in_ok-ask.ensures.effort)

use Rattle.std.proofs.Common.{arith, subst}
use Rattle.scalar_verdicts.specs.Failures.{AreOthers}
use Rattle.scalar_verdicts.specs.Rounds.{IsRound}
use Rattle.scalar_verdicts.proofs.LeftLaws.{covers_empty, empty_list, found_never, left_kept, left_noted}
use Rattle.scalar_verdicts.proofs.rounds.find_runs.Goals as goal

pub returns-in-Never-clause-found : goal.returns-in-Never-clause-found
returns-in-Never-clause-found c = record { reached = c.loop.invariant.reached; settled = found_never _ _ _ _ _ _ c.requires.inputs c.as_slice.ensures.value c.in_ok-ask_any.ensures.round c.in-Never.is c.loop.invariant.left }

pub returns-in-Spent-clause-found : goal.returns-in-Spent-clause-found
returns-in-Spent-clause-found c = record { reached = c.loop.invariant.reached; settled = left_kept _ _ _ _ _ c.in_ok-ask_any.ensures.grown c.loop.invariant.left }

pub loop-preserved : goal.loop-preserved
loop-preserved c = record {
  reached = c.in_ok-note-in-Found.ensures.sound c.args.function.now (subst (IsRound c.args.function.now c.loop.terms c.as_slice.result.now) c.in-Found.is c.in_ok-ask_any.ensures.round) c.loop.invariant.reached;
  left = left_noted _ _ _ _ _ _ _ (left_kept _ _ _ _ _ c.in_ok-ask_any.ensures.grown c.loop.invariant.left) c.in_ok-note-in-Found.ensures
      (subst (λ xs. AreOthers c.in-Found.run'.breach xs c.in_ok-left-in-Found.left.items) c.as_slice-in-Found.ensures.value c.in_ok-left-in-Found.ensures);
  rises = omega (arith, c.loop.invariant.rises, c.in_ok-ask_any.ensures.rises);
}

pub returns-then-is_empty-clause-found : goal.returns-then-is_empty-clause-found
returns-then-is_empty-clause-found c = record { reached = c.loop.invariant.reached; settled = covers_empty _ _ _ _ c.requires.inputs c.loop.invariant.left (empty_list _ _ _ c.as_slice-2.ensures.value c.is_empty.ensures c.if-is_empty.true) }

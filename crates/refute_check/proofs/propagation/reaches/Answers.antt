use Rattle.std.proofs.Common.{◌+◌, ◌*◌, ◌<◌, ◌≤◌, length, get_or, drop, refl, sym, subst, inl, arith}
use Rattle.std.proofs.lemmas.Bool.{false≢true}
use Rattle.std.proofs.lemmas.List.{drop_more}
use Rattle.region_pool.specs.Refutation.{IsFalsified, IsUnit, Reaches}
use Rattle.refute_check.specs.Marks.{true_literals}
use Rattle.refute_check.specs.Propagation.{all_clauses}
use Rattle.refute_check.proofs.MarkFacts.{have_marks}
use Rattle.refute_check.proofs.HintFacts.{reaches_on, reaches_not}
use Rattle.refute_check.proofs.StandingFacts.{IsNeither}
use Rattle.refute_check.proofs.propagation.reaches.Goals as goal

pub take_hint-requires-clause-marks : goal.take_hint-requires-clause-marks
take_hint-requires-clause-marks c =
    let at = c.loop-hint.hint-index in
    let there : at < length c.args.hints.now = omega arith in
    let room : 2 * c.args.clauses.now.variables ≤ length c.loop-hint.marks = omega (arith, c.requires.marks, c.loop-hint.auto.marks) in
    rw c.known_clause-clause.ensures (have_marks c.args.clauses.now.variables c.loop-hint.marks _ room (c.requires.literals at 0 there))

-- the hinted clause is falsified
pub returns-in-Conflict-clause-conflict : goal.returns-in-Conflict-clause-conflict
returns-in-Conflict-clause-conflict c =
    let at = c.loop-hint.hint-index in
    let hints = c.args.hints.now in
    let clauses = all_clauses c.args.clauses.now c.args.log.now in
    let assigned = true_literals c.args.stamp c.loop-hint.marks in
    let there : at < length hints = omega arith in
    let falsified = subst (IsFalsified assigned) c.known_clause-clause.ensures c.in-Conflict.ensures.turn in
    (λ yes. c.loop-hint.invariant.rest.0 (subst (Reaches clauses assigned) (sym (drop_more hints at 0 there)) (inl falsified)), λ reaches. refl)

-- it neither is falsified nor forces a literal
pub returns-in-Stuck-clause-conflict : goal.returns-in-Stuck-clause-conflict
returns-in-Stuck-clause-conflict c =
    let at = c.loop-hint.hint-index in
    let hints = c.args.hints.now in
    let clauses = all_clauses c.args.clauses.now c.args.log.now in
    let assigned = true_literals c.args.stamp c.loop-hint.marks in
    let there : at < length hints = omega arith in
    let neither = subst (IsNeither assigned) c.known_clause-clause.ensures c.in-Stuck.ensures.turn in (
      λ yes. absurd (false≢true yes),
      λ reaches. absurd (reaches_not clauses assigned (get_or hints at 0) (drop (at + 1) hints) neither (subst (Reaches clauses assigned) (drop_more hints at 0 there) (c.loop-hint.invariant.rest.1 reaches))),
    )

-- it forced a literal, which is true now
pub loop-hint-preserved : goal.loop-hint-preserved
loop-hint-preserved c =
    let at = c.loop-hint.hint-index in
    let hints = c.args.hints.now in
    let clauses = all_clauses c.args.clauses.now c.args.log.now in
    let before = true_literals c.args.stamp c.loop-hint.marks in
    let after = true_literals c.args.stamp c.take_hint.new.marks in
    let there : at < length hints = omega arith in
    let turn = c.in-Propagated.ensures.turn in
    let unit = subst (λ clause. IsUnit before clause turn.0) c.known_clause-clause.ensures turn.1 in
    let on = reaches_on clauses before after (get_or hints at 0) (drop (at + 1) hints) turn.0 unit turn.2 in
    let split = drop_more hints at 0 there in
    record {
      past = c.in-Propagated.ensures.past;
      rest = (
        λ reaches. c.loop-hint.invariant.rest.0 (subst (Reaches clauses before) (sym split) (on.0 reaches)),
        λ reaches. on.1 (subst (Reaches clauses before) split (c.loop-hint.invariant.rest.1 reaches)),
      );
    }

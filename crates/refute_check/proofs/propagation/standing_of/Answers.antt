use Rattle.std.proofs.Common.{◌≡◌, ◌≢◌, ◌<◌, length, get_or, take, drop, Some, sym, subst, arith}
use Rattle.std.specs.Prelude.{Contains}
use Rattle.std.proofs.lemmas.List.{take_more, take_all, take-append-drop}
use Rattle.std.proofs.lemmas.List.Elements.{Contains-get_or, Contains-append_left}
use Rattle.region_pool.specs.Refutation.{IsFalse, IsFalsified, IsOpen, IsUnit}
use Rattle.refute_check.specs.Marks.{true_literals}
use Rattle.refute_check.proofs.StandingFacts.{StandsSoFar, false_more, open_first, open_again, neither_by_true, neither_by_two}
use Rattle.refute_check.proofs.propagation.standing_of.Goals as goal
use Rattle.refute_check.proofs.propagation.standing_of.Goals.{in-None, in-Some+else-other-literal}

-- a literal that is false changes nothing
pub loop-literal-preserved-then-is_true : goal.loop-literal-preserved-then-is_true
loop-literal-preserved-then-is_true c =
    let clause = c.args.clause.now in
    let at = c.loop-literal.literal-index in
    let literal = get_or clause at 0 in
    let assigned = true_literals c.args.stamp c.args.marks.now in
    let there : at < length clause = omega arith in
    let is_false : IsFalse assigned literal = subst (Contains assigned) c.negation_of.ensures (c.is_true.ensures.0 c.if-is_true.true) in
    let more = take_more clause at 0 there in
    subst (λ part. StandsSoFar assigned part c.loop-literal.forced) (sym more) (false_more assigned (take at clause) c.loop-literal.forced literal is_false c.loop-literal.invariant)

-- a literal that is true
pub returns-then-is_true-2 : goal.returns-then-is_true-2
returns-then-is_true-2 c =
    let clause = c.args.clause.now in
    let at = c.loop-literal.literal-index in
    let literal = get_or clause at 0 in
    let assigned = true_literals c.args.stamp c.args.marks.now in
    let there : at < length clause = omega arith in
    let not_false : ¬ IsFalse assigned literal = λ is_false.
    let yes = c.is_true.ensures.1 (subst (Contains assigned) (sym c.negation_of.ensures) is_false) in
    let no = c.if-is_true.false in
    cc in
    neither_by_true assigned clause literal (Contains-get_or clause at 0 there) (c.is_true-in-loop-literal.ensures.0 c.if-is_true-2.true) not_false

-- a second literal that is open
pub returns-then-other-literal : goal.returns-then-other-literal
returns-then-other-literal c =
    let clause = c.args.clause.now in
    let at = c.loop-literal.literal-index in
    let literal = get_or clause at 0 in
    let other = c.in-Some.other in
    let assigned = true_literals c.args.stamp c.args.marks.now in
    let there : at < length clause = omega arith in
    let not_false : ¬ IsFalse assigned literal = λ is_false.
    let yes = c.is_true.ensures.1 (subst (Contains assigned) (sym c.negation_of.ensures) is_false) in
    let no = c.if-is_true.false in
    cc in
    let unit : IsUnit assigned (take at clause) other = subst (StandsSoFar assigned (take at clause)) c.in-Some.is c.loop-literal.invariant in
    let member : Contains clause other = subst (λ part. Contains part other) (take-append-drop at clause) (Contains-append_left (take at clause) (drop at clause) other unit.member) in
    let differ : other ≢ literal = c.if-other-literal.true in
    neither_by_two assigned clause other literal member (Contains-get_or clause at 0 there) unit.free.1 not_false differ

-- a literal that is open, and the first or the same again
pub loop-literal-preserved : goal.loop-literal-preserved
loop-literal-preserved c =
    let clause = c.args.clause.now in
    let at = c.loop-literal.literal-index in
    let literal = get_or clause at 0 in
    let assigned = true_literals c.args.stamp c.args.marks.now in
    let there : at < length clause = omega arith in
    let not_false : ¬ IsFalse assigned literal = λ is_false.
    let yes = c.is_true.ensures.1 (subst (Contains assigned) (sym c.negation_of.ensures) is_false) in
    let no = c.if-is_true.false in
    cc in
    let not_true : ¬ Contains assigned literal = λ is_true.
    let yes = c.is_true-in-loop-literal.ensures.1 is_true in
    let no = c.if-is_true-2.false in
    cc in
    let free : IsOpen assigned literal = (not_true, not_false) in
    let more = take_more clause at 0 there in
    elim c.match-forced.branch [
      | in-None w ↦
          let so_far = subst (StandsSoFar assigned (take at clause)) w.in-None.is c.loop-literal.invariant in
          rw w.forced-is (subst (λ part. IsUnit assigned part literal) (sym more) (open_first assigned (take at clause) literal free so_far))
      | in-Some+else-other-literal w ↦
          let same : w.in-Some.other ≡ literal = w.if-other-literal.false in
          let so_far : IsUnit assigned (take at clause) literal = subst (IsUnit assigned (take at clause)) same (subst (StandsSoFar assigned (take at clause)) w.in-Some.is c.loop-literal.invariant) in
          let is : c.match-forced.forced ≡ Some literal = cc in
          rw is (subst (λ part. IsUnit assigned part literal) (sym more) (open_again assigned (take at clause) literal so_far))
    ]

-- all are false
pub returns-in-None-forced : goal.returns-in-None-forced
returns-in-None-forced c =
    let clause = c.args.clause.now in
    let assigned = true_literals c.args.stamp c.args.marks.now in
    let so_far = subst (StandsSoFar assigned (take c.loop-literal.literal-index clause)) c.in-None-forced.is c.loop-literal.invariant in
    subst (IsFalsified assigned) (take_all c.loop-literal.literal-index clause (omega arith)) so_far

use Rattle.std.proofs.Common.{◌+◌, ◌<◌, length, sym, subst, arith}
use Rattle.std.specs.Prelude.{All, Any, Contains}
use Rattle.std.proofs.lemmas.Bool.{false≢true}
use Rattle.region_pool.specs.Clauses.{AreLiterals}
use Rattle.region_pool.specs.Refutation.{IsConsistent, Reaches, negations}
use Rattle.refute_check.specs.Marks.{IsSameSet, true_literals}
use Rattle.refute_check.specs.Propagation.{all_clauses}
use Rattle.refute_check.proofs.MarkFacts.{have_marks}
use Rattle.refute_check.proofs.HintFacts.{hinted_literals, not_consistent, is_consistent, follows_by}
use Rattle.refute_check.proofs.line_check.follows_by_hints.Goals as goal

pub assume_false-requires-clause-marks : goal.assume_false-requires-clause-marks
assume_false-requires-clause-marks c =
    have_marks c.args.clauses.now.variables c.args.marks.now c.literals-literals.result.now c.requires.marks
    (subst (λ v. AreLiterals v c.literals-literals.result.now) c.variables.ensures.count (c.are_literals.ensures.0 c.if-not-are_literals.false))

pub has_true-requires : goal.has_true-requires
has_true-requires c =
    have_marks c.args.clauses.now.variables c.assume_false.new.marks c.literals-literals.result.now (omega (arith, c.requires.marks, c.assume_false.auto.marks))
    (subst (λ v. AreLiterals v c.literals-literals.result.now) c.variables.ensures.count (c.are_literals.ensures.0 c.if-not-are_literals.false))

-- a literal stands beside its negation
pub returns-then-has_true-clause-follows : goal.returns-then-has_true-clause-follows
returns-then-has_true-clause-follows c =
    let literals = c.literals-literals.result.now in
    let assigned = true_literals c.args.stamp c.assume_false.new.marks in (
      λ yes. absurd (false≢true yes),
      λ follows. absurd (not_consistent literals assigned c.assume_false.ensures.assumed (c.has_true.ensures.0 c.if-has_true.true) (subst IsConsistent (sym c.literals-literals.ensures) follows.consistent)),
    )

pub reaches-requires-clause-literals : goal.reaches-requires-clause-literals
reaches-requires-clause-literals c k d there =
    hinted_literals c.args.clauses.now c.args.log.now c.args.line _ c.variables.ensures.literals c.requires.earlier (omega (arith, c.requires.there))
    (omega (arith, c.are_known.ensures.0 c.if-not-are_known.false k d there, c.len.ensures.len))

-- the hints reach a conflict, or they do not
pub returns-clause-follows : goal.returns-clause-follows
returns-clause-follows c =
    let input = c.args.clauses.now in
    let log = c.args.log.now in
    let line = c.args.line in
    let assigned = true_literals c.args.stamp c.assume_false.new.marks in
    let clauses = all_clauses input log in
    let literals = subst (AreLiterals input.variables) c.literals-literals.ensures (subst (λ v. AreLiterals v c.literals-literals.result.now) c.variables.ensures.count (c.are_literals.ensures.0 c.if-not-are_literals.false)) in
    let known = subst (All (λ hint. hint < length input.clauses + line)) c.hints-hints.ensures (subst (λ inputs. All (λ hint. hint < inputs + line) c.hints-hints.result.now) c.len.ensures.len (c.are_known.ensures.0 c.if-not-are_known.false)) in
    let none_true : ¬ Any (Contains assigned) c.literals-literals.result.now = λ some.
    let found = c.has_true.ensures.1 some in
    let not_found = c.if-has_true.false in
    cc in
    let consistent = subst IsConsistent c.literals-literals.ensures (is_consistent c.literals-literals.result.now assigned c.assume_false.ensures.assumed none_true) in
    let same = subst (λ ls. IsSameSet (negations ls) assigned) c.literals-literals.ensures c.assume_false.ensures.assumed in
    let follows = follows_by input log line assigned c.requires.there literals known consistent same in (
      λ found. follows.0 (subst (Reaches clauses assigned) c.hints-hints.ensures (c.reaches.ensures.conflict.0 found)),
      λ line_follows. c.reaches.ensures.conflict.1 (subst (Reaches clauses assigned) (sym c.hints-hints.ensures) (follows.1 line_follows)),
    )

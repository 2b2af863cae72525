use Rattle.std.proofs.Common.{◌≡◌, ◌<◌, ◌≤◌, length, get_or, take, subst, arith}
use Rattle.std.proofs.lemmas.List.{take_all}
use Rattle.std.proofs.lemmas.List.Elements.{All-weaker, All-set}
use Rattle.region_pool.specs.Literals.{negation}
use Rattle.region_pool.specs.Refutation.{negations}
use Rattle.refute_check.specs.Marks.{true_literals, IsSameSet}
use Rattle.refute_check.proofs.MarkFacts.{assumed_none, assumed_more}
use Rattle.refute_check.proofs.marks.assume_false.Goals as goal

pub loop-literal-init : goal.loop-literal-init
loop-literal-init c = record {
  past = All-weaker (λ mark. mark < c.args.stamp) (λ mark. mark ≤ c.args.stamp) (λ mark below. omega arith) c.args.marks.now c.requires.old;
  assumed = assumed_none c.args.stamp c.args.marks.now c.requires.old;
}

pub loop-literal-preserved : goal.loop-literal-preserved
loop-literal-preserved c =
    let at = c.loop-literal.literal-index in
    let marks = c.loop-literal.marks in
    let there : at < length c.args.literals.now = omega arith in
    let marked : negation (get_or c.args.literals.now at 0) < length marks = omega (arith, (c.requires.marks at 0 there).1, c.loop-literal.auto.marks) in
    record {
      past = All-set (λ mark. mark ≤ c.args.stamp) marks c.negation_of.result c.args.stamp (omega arith) c.loop-literal.invariant.past;
      assumed = rw c.negation_of.ensures (assumed_more c.args.stamp marks c.args.literals.now at there marked c.loop-literal.invariant.assumed);
    }

pub returns-clause-assumed : goal.returns-clause-assumed
returns-clause-assumed c =
    let all : take c.loop-literal.literal-index c.args.literals.now ≡ c.args.literals.now = take_all _ c.args.literals.now (omega arith) in
    subst (λ literals. IsSameSet (negations literals) (true_literals c.args.stamp c.loop-literal.marks)) all c.loop-literal.invariant.assumed

use Rattle.std.proofs.lemmas.List.Elements.{All-contains}
use Rattle.refute_check.specs.Marks.{HasMarks}
use Rattle.refute_check.proofs.MarkFacts.{true_literals-set}
use Rattle.refute_check.proofs.propagation.take_hint.Goals as goal

-- the literal is now true, and no other is that was not
pub returns-in-Forces-clause-turn : goal.returns-in-Forces-clause-turn
returns-in-Forces-clause-turn c =
    let marks = c.args.marks.now in
    let literal = c.in-Forces.literal in
    let there = All-contains (HasMarks marks) c.args.clause.now literal c.requires.marks c.in-Forces.ensures.member in
    (literal, c.in-Forces.ensures, true_literals-set c.args.stamp marks literal there.0)

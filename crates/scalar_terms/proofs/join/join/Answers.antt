use Rattle.std.proofs.Common.{sym, ◌∙◌}
use Rattle.scalar_terms.proofs.JoinLaws.{joined_made, put_made}
use Rattle.scalar_terms.proofs.join.join.Goals as goal

pub enter-requires-clause-was : goal.enter-requires-clause-was
enter-requires-clause-was c x e = c.requires.ways c.args.target.0 x (sym c.take_way-was.ensures.taken ∙ e)

pub returns : goal.returns
returns c = joined_made c.args.function.now c.args.terms.now c.enter.new.terms c.args.ways.now c.put_way.new.ways c.args.target.0 c.args.guard.0 c.args.slots.now c.in_ok-way.way c.requires.ways (rw c.take_way-was.ensures.taken at c.in_ok-way.ensures)
    (put_made c.args.ways.now c.take_way-was.new.ways c.put_way.new.ways c.args.target.0 c.in_ok-way.way c.requires.inside c.take_way-was.ensures.left c.put_way.ensures)

use Rattle.std.proofs.Common.{arith}
use Rattle.layout_rules.proofs.SearchLaws.{first_none}
use Rattle.layout_rules.proofs.recursion.first_recursive.Goals as goal

pub returns : goal.returns
returns c = first_none c.args.outlines.now c.loop-place.place (omega arith) c.loop-place.invariant

use Rattle.sym_terms.proofs.SumLaws.{Adds-product}
use Rattle.sym_terms.proofs.sums.Sum.add_multiple.Goals as goal

pub returns-in-Some : goal.returns-in-Some
returns-in-Some c = λ found. Adds-product c.in-Some.whole c.args.product c.args.coefficient c.args.summand c.in-Some.ensures (c.add.ensures found)

use Rattle.sym_terms.proofs.SumLaws.{Adds-set}
use Rattle.sym_terms.proofs.sums.Sum.add.Goals as goal

pub returns : goal.returns
returns c = λ found. Adds-set c.args.self.now.summands c.in-Some.at c.args.product c.args.coefficient _ c.in-Some.ensures

use Rattle.sym_terms.proofs.SumLaws.{Adds-times}
use Rattle.sym_terms.proofs.sums.Sum.add_times.Goals as goal

pub returns : goal.returns
returns c = λ found. Adds-times c.args.coefficient c.args.one c.args.summands.now (c.add_all.ensures found)

use Rattle.sum_circuits.proofs.Sums.{literals_inside}
use Rattle.sum_circuits.proofs.run.Goals as goal

pub clauses-requires-clause-roots : goal.clauses-requires-clause-roots
clauses-requires-clause-roots g c = literals_inside c.args.terms.now c.args.root c.in_ok-gates.gates c.index.result.now c.as_slice-literals.result.now c.in_ok-gates.ensures c.index.ensures c.as_slice-literals.ensures.value

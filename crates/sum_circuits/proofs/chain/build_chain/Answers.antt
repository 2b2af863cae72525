use Rattle.sum_circuits.proofs.Sums.{second_input_fits}
use Rattle.sum_circuits.proofs.chain.build_chain.Goals as goal

pub insert-requires-2 : goal.insert-requires-2
insert-requires-2 c = second_input_fits c.insert.new.self c.new-terms.result c.in_ok-first.first.0 c.new-terms.ensures c.in_ok-first.ensures.ok

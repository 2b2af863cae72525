use Rattle.std.proofs.Common.{ap, ◌∙◌, None, replicate}
use Rattle.scalar_runs.specs.Look.{blocks_end}
use Rattle.scalar_terms.proofs.AheadLaws.{few_locals}
use Rattle.scalar_terms.proofs.faults.faults_of.Goals as goal

pub sweep-requires-clause-ways : goal.sweep-requires-clause-ways
sweep-requires-clause-ways c = c.as_mut_slice.ensures.value ∙ c.in_ok-ways.ensures ∙ ap (λ n. replicate n None) (c.blocks_end.ensures.end ∙ ap blocks_end c.as_slice.ensures)

pub sweep-requires-clause-start : goal.sweep-requires-clause-start
sweep-requires-clause-start c = rw c.new-terms.ensures at c.in_ok-start.ensures

pub start_way-requires : goal.start_way-requires
start_way-requires c = few_locals c.args.function.now c.requires

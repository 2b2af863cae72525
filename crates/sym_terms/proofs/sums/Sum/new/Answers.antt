use Rattle.std.proofs.Common.{refl}
use Rattle.sym_terms.specs.Sums.{sum_value}
use Rattle.sym_terms.proofs.sums.Sum.new.Goals as goal

pub returns : goal.returns
unfolding sum_value
returns c = λ values. refl

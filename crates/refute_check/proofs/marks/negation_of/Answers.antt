use Rattle.std.proofs.Common.{arith}
use Rattle.std.proofs.lemmas.Bool.Decides.{nat_tests}
use Rattle.region_pool.specs.Literals.{negation}
use Rattle.refute_check.proofs.marks.negation_of.Goals as goal

pub returns : goal.returns
unfolding negation
returns c = grind (arith, nat_tests)

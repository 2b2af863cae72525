use Rattle.bit_gates.proofs.SumLaws.{zeros_made}
use Rattle.bit_gates.proofs.products.zeros.Goals as goal

pub returns : goal.returns
returns c = zeros_made _ _ _ _ c.constant-falsity.ensures c.in_ok-copies.ensures

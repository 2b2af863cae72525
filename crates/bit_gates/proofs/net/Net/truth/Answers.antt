use Rattle.bit_gates.proofs.MadeLaws.{truth_is}
use Rattle.bit_gates.proofs.net.Net.truth.Goals as goal

pub returns : goal.returns
returns c = truth_is _ _ _ c.self.view_is c.self.invariant.first c.self.invariant.in_order

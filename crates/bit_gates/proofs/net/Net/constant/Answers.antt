use Rattle.bit_gates.proofs.MadeLaws.{constant_signed}
use Rattle.bit_gates.proofs.net.Net.constant.Goals as goal

pub returns : goal.returns
returns c = constant_signed _ _ _ _ c.truth.ensures c.signed.ensures

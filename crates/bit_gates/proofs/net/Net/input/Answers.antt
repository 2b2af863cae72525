use Rattle.bit_gates.proofs.InputLaws.{input_is}
use Rattle.bit_gates.proofs.net.Net.input.Goals as goal

pub returns : goal.returns
returns c = input_is _ _ c.requires

use Rattle.bit_gates.proofs.MadeLaws.{folded_fresh}
use Rattle.bit_gates.proofs.net.Net.make_folded.Goals as goal

pub returns-in_ok-literal-in-Fresh : goal.returns-in_ok-literal-in-Fresh
returns-in_ok-literal-in-Fresh c = folded_fresh _ _ _ _ _ _ _ c.in-Fresh.is c.in_ok-literal-in-Fresh.ensures c.signed.ensures

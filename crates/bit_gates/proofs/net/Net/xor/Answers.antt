use Rattle.bit_gates.proofs.MadeLaws.{made_folding}
use Rattle.bit_gates.proofs.net.Net.xor.Goals as goal

pub make_folded-requires : goal.make_folded-requires
make_folded-requires c = c.fold_xor-folded.ensures.inside _ c.truth.ensures.inside c.requires.a_inside c.requires.b_inside c.requires.b_inside

pub returns : goal.returns
returns c = made_folding _ _ _ _ _ _ _ _ _ c.truth.ensures c.fold_xor-folded.ensures c.in_ok-make_folded.ensures

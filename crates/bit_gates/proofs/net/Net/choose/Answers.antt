use Rattle.bit_gates.proofs.MadeLaws.{made_folding}
use Rattle.bit_gates.proofs.net.Net.choose.Goals as goal

pub make_folded-requires : goal.make_folded-requires
make_folded-requires c = c.fold_choose-folded.ensures.inside _ c.truth.ensures.inside c.requires.test_inside c.requires.a_inside c.requires.b_inside

pub returns : goal.returns
returns c = made_folding _ _ _ _ _ _ _ _ _ c.truth.ensures c.fold_choose-folded.ensures c.in_ok-make_folded.ensures

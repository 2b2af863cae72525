use Rattle.sym_terms.proofs.CollectLaws.{IsShiftFactor-power}
use Rattle.sym_terms.proofs.terms.Terms.shift_factor.Goals as goal

pub returns : goal.returns
returns c = IsShiftFactor-power c.args.self.now c.in_ok-constant.ensures.fitting c.args.amount c.in_ok-constant.constant c.args.width c.requires.width_is c.in_ok-constant.ensures.found

use Rattle.sym_terms.proofs.WordLaws.{power_rem}
use Rattle.sym_terms.proofs.laws.law_of_power.Goals as goal

pub returns-in-RemUnsigned : goal.returns-in-RemUnsigned
returns-in-RemUnsigned c = rw (c.in-RemUnsigned.is, c.requires.power) (power_rem c.args.width c.requires.width_is c.args.exponent c.requires.below)

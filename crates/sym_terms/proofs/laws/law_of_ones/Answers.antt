use Rattle.sym_terms.proofs.WordLaws.{ones_and, ones_or, ones_xor}
use Rattle.sym_terms.proofs.laws.law_of_ones.Goals as goal

pub returns-in-And : goal.returns-in-And
returns-in-And c = rw (c.in-And.is, c.requires.ones) (ones_and c.args.width c.requires.width_is)

pub returns-in-Or : goal.returns-in-Or
returns-in-Or c = rw (c.in-Or.is, c.requires.ones) (ones_or c.args.width c.requires.width_is)

pub returns-in-Xor : goal.returns-in-Xor
returns-in-Xor c = rw (c.in-Xor.is, c.requires.ones) (ones_xor c.args.width c.requires.width_is)

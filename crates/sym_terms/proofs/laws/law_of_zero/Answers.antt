use Rattle.sym_terms.proofs.WordLaws.{zero_add, zero_sub, zero_or}
use Rattle.sym_terms.proofs.laws.law_of_zero.Goals as goal

pub returns-in-Add : goal.returns-in-Add
returns-in-Add c = rw (c.in-Add.is, c.requires.zero) (zero_add c.args.width c.requires.width_is)

pub returns-in-Sub : goal.returns-in-Sub
returns-in-Sub c = rw (c.in-Sub.is, c.requires.zero) (zero_sub c.args.width c.requires.width_is)

pub returns-in-Or : goal.returns-in-Or
returns-in-Or c = rw (c.in-Or.is, c.requires.zero) (zero_or c.args.width c.requires.width_is)

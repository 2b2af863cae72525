use Rattle.sym_terms.proofs.WordLaws.{same_or, same_xor, same_rem}
use Rattle.sym_terms.proofs.laws.law_of_same.Goals as goal

pub returns-in-Or : goal.returns-in-Or
returns-in-Or c = rw c.in-Or.is (same_or c.args.width c.requires)

pub returns-in-Xor : goal.returns-in-Xor
returns-in-Xor c = rw c.in-Xor.is (same_xor c.args.width c.requires)

pub returns-in-RemUnsigned : goal.returns-in-RemUnsigned
returns-in-RemUnsigned c = rw c.in-RemUnsigned.is (same_rem c.args.width c.requires)

use Rattle.std.proofs.Common.{◌≡◌, ◌<◌, ◌^◌, ℕ, subst, arith}
use Rattle.sym_terms.proofs.WordLaws.{word_is, equal_zero, equal_one}
use Rattle.sym_terms.proofs.laws.law_of_bit.Goals as goal

pub returns-then-c-eq0 : goal.returns-then-c-eq0
returns-then-c-eq0 c = rw (word_is c.args.c 1 0 c.requires.bit c.if-c-eq0.true) equal_zero

pub returns-else-c-eq0 : goal.returns-else-c-eq0
returns-else-c-eq0 c =
    let below : c.args.c.value < 2 ^ 1 = subst (λ (k : ℕ). c.args.c.value < 2 ^ k) c.requires.bit c.requires.word.below in
    let one : c.args.c.value ≡ 1 = omega (arith, c.if-c-eq0.false) in
    rw (word_is c.args.c 1 1 c.requires.bit one) equal_one

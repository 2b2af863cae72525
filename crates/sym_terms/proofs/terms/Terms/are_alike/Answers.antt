use Rattle.std.proofs.Common.{ℕ, ◌≤◌, refl, subst, sym}
use Rattle.sym_terms.proofs.ValueWords.{IsWidth-width_of}
use Rattle.sym_terms.proofs.CollectLaws.{AreAlike-at}
use Rattle.sym_terms.proofs.terms.Terms.are_alike.Goals as goal

pub is_nothing-requires-clause-some_bits : goal.is_nothing-requires-clause-some_bits
is_nothing-requires-clause-some_bits c = subst (λ (k : ℕ). 1 ≤ k) (sym c.width.ensures) (IsWidth-width_of c.args.self.now c.requires.fitting c.args.a.0 c.requires.first).some_bits

pub is_nothing-requires-clause-few_bits : goal.is_nothing-requires-clause-few_bits
is_nothing-requires-clause-few_bits c = subst (λ (k : ℕ). k ≤ 128) (sym c.width.ensures) (IsWidth-width_of c.args.self.now c.requires.fitting c.args.a.0 c.requires.first).few_bits

pub returns : goal.returns
returns c = λ found. AreAlike-at c.args.self.now c.requires.fitting _ c.args.a c.args.b c.requires.first c.requires.second c.requires.one_width c.width.ensures c.wrapping_neg-minus.ensures c.new-sum.ensures
    (c.if-not-collect.ensures refl) (c.if-not-collect-2.ensures refl) (c.is_nothing.ensures found)

use Rattle.std.proofs.Common.{sym, ◌∙◌}
use Rattle.sym_terms.specs.declared.term.Term.TheVariants.{Constant}
use Rattle.sym_terms.proofs.Grown.{width_at}
use Rattle.sym_terms.proofs.ValueWords.{IsWidth-width_of}
use Rattle.sym_terms.proofs.Simplified.{IsSimpler-constant, IsSimpler-constants, AreFolded-constants}
use Rattle.sym_terms.proofs.terms.Terms.with_constant.Goals as goal

pub fold-requires : goal.fold-requires
fold-requires c = AreFolded-constants c.args.self.now c.in-Some.ensures.fitting c.args.op c.args.a c.args.b c.requires.fits c.in-Some.first c.args.second c.in-Some.ensures.found c.requires.constant

pub returns-in-Some : goal.returns-in-Some
returns-in-Some c = rw c.fold.ensures (IsSimpler-constants c.args.self.now c.in-Some.ensures.fitting c.args.op c.args.a c.args.b c.requires.fits c.in-Some.first c.args.second c.in-Some.ensures.found c.requires.constant)

pub law_of_constant-requires-clause-width_is : goal.law_of_constant-requires-clause-width_is
law_of_constant-requires-clause-width_is c = rw c.width.ensures (IsWidth-width_of c.args.self.now c.constant.ensures.fitting c.args.a.0 c.requires.fits.fitting.0)

pub law_of_constant-requires-clause-constant : goal.law_of_constant-requires-clause-constant
law_of_constant-requires-clause-constant c = c.constant.ensures.fitting.fitting c.args.b.0 (Constant c.args.second) c.requires.constant

pub law_of_constant-requires-clause-one_width : goal.law_of_constant-requires-clause-one_width
law_of_constant-requires-clause-one_width c = λ unshifted.
    sym (width_at c.args.self.now c.args.b.0 (Constant c.args.second) c.requires.constant (c.constant.ensures.fitting.fitting c.args.b.0 (Constant c.args.second) c.requires.constant))
    ∙ c.requires.fits.fitting.3 c.requires.binary unshifted ∙ sym c.width.ensures

pub returns-in-Some-law_of_constant : goal.returns-in-Some-law_of_constant
returns-in-Some-law_of_constant c = rw c.simpler_of.ensures (IsSimpler-constant c.args.self.now c.constant.ensures.fitting c.args.op c.args.a c.args.b c.requires.fits c.in-Some-law_of_constant.law c.args.second c.requires.constant (rw c.width.ensures at c.in-Some-law_of_constant.ensures))

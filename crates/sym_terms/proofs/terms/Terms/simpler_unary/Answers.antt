use Rattle.std.proofs.Common.{refl}
use Rattle.sym_terms.proofs.Simplified.{IsSimpler-unary}
use Rattle.sym_terms.proofs.AgainLaws.{unary_twice}
use Rattle.sym_terms.proofs.terms.Terms.simpler_unary.Goals as goal

pub fold-requires : goal.fold-requires
fold-requires c =
    let here = c.in-Some.ensures.fitting.fitting c.args.a.0 _ c.in-Some.ensures.found in
    record { first = here; second = λ binary. here; widths = λ binary unshifted. refl }

pub returns-in-Some : goal.returns-in-Some
returns-in-Some c = rw c.fold.ensures (IsSimpler-unary c.args.self.now c.in-Some.ensures.fitting c.args.op c.args.a c.args.b c.requires.fits c.requires.unary c.in-Some.first c.in-Some.ensures.found)

pub returns-in_ok-inner-in-None : goal.returns-in_ok-inner-in-None
returns-in_ok-inner-in-None c = unary_twice c.args.self.now c.in-None.ensures.fitting c.args.op c.requires.unary c.args.a c.args.b c.in_ok-inner-in-None.inner c.in_ok-inner-in-None.field-0-1 c.requires.fits c.in_ok-inner-in-None.ensures.found

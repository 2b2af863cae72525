use Rattle.std.proofs.Common.{◌≤◌, arith}
use Rattle.sym_terms.specs.Terms.{width_of}
use Rattle.sym_terms.proofs.TermLaws.{cast_cast, cast_wider}
use Rattle.sym_terms.proofs.terms.Terms.simpler_recast.Goals as goal

pub returns-then-width-middle : goal.returns-then-width-middle
returns-then-width-middle c = cast_cast c.args.self.now c.requires.fitting c.args.a c.args.inner c.args.first c.args.signed c.args.middle c.args.width c.requires.fits c.requires.cast c.if-width-middle.true

pub width-requires : goal.width-requires
width-requires c =
    let inner = c.requires.fitting.fitting c.args.a.0 _ c.requires.cast in
    omega (arith, inner.0, c.requires.fits.fitting.0)

pub returns-then-width-middle-2 : goal.returns-then-width-middle-2
returns-then-width-middle-2 c =
    let few : width_of c.args.self.now c.args.inner.0 ≤ c.args.middle = rw c.width.ensures at c.if-width-middle-2.true in
    rw c.if-not-signed.true (cast_wider c.args.self.now c.requires.fitting c.args.a c.args.inner c.args.middle c.args.width (rw c.if-not-signed.true at c.requires.fits) (rw c.if-not-first.true at c.requires.cast) few)

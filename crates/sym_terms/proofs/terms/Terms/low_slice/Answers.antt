use Rattle.std.proofs.Common.{sym, ◌∙◌}
use Rattle.sym_terms.proofs.TermLaws.{slice_whole, slice_first}
use Rattle.sym_terms.proofs.terms.Terms.low_slice.Goals as goal

pub returns-then-width : goal.returns-then-width
returns-then-width c = rw c.if-from-ne0.false (slice_whole c.args.self.now c.requires.fitting c.args.a c.args.width (rw c.if-from-ne0.false at c.requires.fits) (sym c.width.ensures ∙ sym c.if-width.true))

pub returns : goal.returns
returns c = rw c.if-from-ne0.false (slice_first c.args.self.now c.requires.fitting c.args.a c.args.width (rw c.if-from-ne0.false at c.requires.fits))

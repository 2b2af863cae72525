use Rattle.std.proofs.Common.{◌≤◌, ◌+◌, arith}
use Rattle.sym_terms.specs.declared.term.Term.TheVariants.{Constant, Slice, Cast}
use Rattle.sym_terms.specs.Terms.{width_of}
use Rattle.sym_terms.proofs.TermLaws.{at_width, slice_constant, slice_slice, slice_cast}
use Rattle.sym_terms.proofs.ValueWords.{IsWidth-width_of}
use Rattle.sym_terms.proofs.terms.Terms.simpler_slice.Goals as goal

pub slice_word-requires-clause-word : goal.slice_word-requires-clause-word
slice_word-requires-clause-word c = c.in-Constant.ensures.fitting.fitting c.args.a.0 (Constant c.in-Constant.word) c.in-Constant.ensures.term

pub slice_word-requires-clause-inside : goal.slice_word-requires-clause-inside
slice_word-requires-clause-inside c =
    let e = at_width c.args.self.now c.in-Constant.ensures.fitting c.args.a.0 (Constant c.in-Constant.word) c.in-Constant.ensures.term in
    omega (arith, e, c.requires.fitting.2)

pub returns-in-Constant : goal.returns-in-Constant
returns-in-Constant c = rw c.slice_word.ensures (slice_constant c.args.self.now c.in-Constant.ensures.fitting c.args.a c.args.from c.args.width c.in-Constant.word c.requires c.in-Constant.ensures.term)

pub overflow_add-result : goal.overflow_add-result
overflow_add-result c =
    let inner = c.in-Slice.ensures.fitting.fitting c.args.a.0 (Slice c.in-Slice.inner c.in-Slice.first c.in-Slice.width) c.in-Slice.ensures.term in
    let e = at_width c.args.self.now c.in-Slice.ensures.fitting c.args.a.0 (Slice c.in-Slice.inner c.in-Slice.first c.in-Slice.width) c.in-Slice.ensures.term in
    let few = IsWidth-width_of c.args.self.now c.in-Slice.ensures.fitting c.in-Slice.inner.0 (omega (arith, inner.0, c.requires.fitting.0)) in
    omega (arith, inner.2, e, few.few_bits, c.requires.fitting.2)

pub returns-in-Slice : goal.returns-in-Slice
returns-in-Slice c = slice_slice c.args.self.now c.in-Slice.ensures.fitting c.args.a c.in-Slice.inner c.in-Slice.first c.in-Slice.width c.args.from c.args.width c.requires c.in-Slice.ensures.term

pub overflow_add-from : goal.overflow_add-from
overflow_add-from c =
    let few = IsWidth-width_of c.args.self.now c.in-Cast.ensures.fitting c.args.a.0 c.requires.fitting.0 in
    omega (arith, few.few_bits, c.requires.fitting.2)

pub width-requires : goal.width-requires
width-requires c =
    let inner = c.in-Cast.ensures.fitting.fitting c.args.a.0 (Cast c.in-Cast.inner c.in-Cast.signed c.in-Cast.width) c.in-Cast.ensures.term in
    omega (arith, inner.0, c.requires.fitting.0)

pub returns-then-from-width : goal.returns-then-from-width
returns-then-from-width c =
    let inside : c.args.from + c.args.width ≤ width_of c.args.self.now c.in-Cast.inner.0 = rw c.width.ensures at c.if-from-width.true in
    slice_cast c.args.self.now c.in-Cast.ensures.fitting c.args.a c.in-Cast.inner c.in-Cast.signed c.in-Cast.width c.args.from c.args.width c.requires c.in-Cast.ensures.term inside

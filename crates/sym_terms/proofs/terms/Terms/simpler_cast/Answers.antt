use Rattle.std.proofs.Common.{sym, ◌∙◌, ◌≤◌, arith}
use Rattle.sym_terms.specs.declared.term.Term.TheVariants.{Constant}
use Rattle.sym_terms.specs.Terms.{width_of}
use Rattle.sym_terms.proofs.TermLaws.{cast_same, cast_constant, cast_narrow}
use Rattle.sym_terms.proofs.terms.Terms.simpler_cast.Goals as goal

pub returns-then-source-width : goal.returns-then-source-width
returns-then-source-width c = cast_same c.args.self.now c.term-operand.ensures.fitting c.args.a c.args.signed c.args.width c.requires (sym c.width-source.ensures ∙ c.if-source-width.true)

pub cast-requires-clause-source : goal.cast-requires-clause-source
cast-requires-clause-source c = c.in-Constant.ensures.fitting.fitting c.args.a.0 (Constant c.in-Constant.word) c.in-Constant.ensures.term

pub returns-in-Constant : goal.returns-in-Constant
returns-in-Constant c = rw c.cast.ensures (cast_constant c.args.self.now c.in-Constant.ensures.fitting c.args.a c.args.signed c.args.width c.in-Constant.word c.requires c.in-Constant.ensures.term)

pub returns-then-width-source : goal.returns-then-width-source
returns-then-width-source c =
    let few : c.args.width ≤ width_of c.args.self.now c.args.a.0 = omega (arith, c.width-source.ensures, c.if-width-source.true) in
    rw c.if-signed.true (cast_narrow c.args.self.now c.term-operand.ensures.fitting c.args.a c.args.width (rw c.if-signed.true at c.requires) few)

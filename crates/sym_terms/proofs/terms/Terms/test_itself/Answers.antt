use Rattle.std.proofs.Common.{sym, ◌∙◌, ◌≡◌, ap}
use Rattle.word_bits.specs.declared.word.Word.{Word}
use Rattle.sym_terms.specs.declared.term.Term.TheVariants.{Constant}
use Rattle.sym_terms.proofs.TermLaws.{at_width, choose_test}
use Rattle.sym_terms.proofs.WordLaws.{word_is}
use Rattle.sym_terms.proofs.terms.Terms.test_itself.Goals as goal

pub returns-in-Constant : goal.returns-in-Constant
returns-in-Constant c =
    let are = c.in-Constant.ensures.fitting in
    let terms = c.args.self.now in
    let width : c.in-Constant.word.width ≡ 1 =
    sym (at_width terms are c.args.b.0 (Constant c.in-Constant.word) c.in-Constant.ensures.term) ∙ c.requires.fits.fitting.4
    ∙ at_width terms are c.args.a.0 (Constant c.args.first) c.requires.constant ∙ ap (λ (w : Word). w.width) c.requires.one in
    choose_test terms are c.args.test c.args.a c.args.b c.args.first c.in-Constant.word c.requires.fits c.requires.constant c.in-Constant.ensures.term c.requires.one (word_is c.in-Constant.word 1 0 width c.if-word-eq0.true)

use Rattle.std.proofs.Common.{◌≡◌, ap, ◌∙◌, Some}
use Rattle.std.specs.Prelude.{slice_get}
use Rattle.sym_terms.specs.declared.term.TermOp.{TermOp}
use Rattle.sym_terms.specs.declared.term.TermOp.TheVariants.{Not}
use Rattle.sym_terms.specs.declared.term.Term.TheVariants.{Apply}
use Rattle.sym_terms.proofs.TermLaws.{choose_first, choose_second, choose_not}
use Rattle.sym_terms.proofs.terms.Terms.simpler_choose.Goals as goal

pub returns-then-word-eq1 : goal.returns-then-word-eq1
returns-then-word-eq1 c = choose_first c.args.self.now c.in-Constant.ensures.fitting c.args.test c.args.a c.args.b c.in-Constant.word c.requires c.in-Constant.ensures.term c.if-word-eq1.true

pub returns-else-word-eq1 : goal.returns-else-word-eq1
returns-else-word-eq1 c = choose_second c.args.self.now c.in-Constant.ensures.fitting c.args.test c.args.a c.args.b c.in-Constant.word c.requires c.in-Constant.ensures.term c.if-word-eq1.false

pub returns-in-Not : goal.returns-in-Not
returns-in-Not c =
    let t = c.in-Apply.turned in
    let u = c.in-Apply.b in
    let at : slice_get c.args.self.now c.args.test.0 ≡ Some (Apply Not t u) =
    c.in-Apply.ensures.term ∙ ap (λ (op : TermOp). Some (Apply op t u)) c.in-Not.is in
    choose_not c.args.self.now c.term-condition.ensures.fitting c.args.test t u c.args.a c.args.b c.requires at

use Rattle.std.proofs.Common.{◌≡◌, ap, ◌∙◌, rules, Some}
use Rattle.std.specs.Prelude.{slice_get}
use Rattle.sym_terms.specs.declared.term.TermId.{TermId}
use Rattle.sym_terms.specs.declared.term.Term.TheVariants.{Choose}
use Rattle.sym_terms.proofs.TermLaws.{choose_again_second}
use Rattle.sym_terms.proofs.terms.Terms.simpler_second_arm.Goals as goal

pub returns-in-Choose : goal.returns-in-Choose
returns-in-Choose c =
    let e : c.in-Choose.again ≡ c.args.test = search rules in
    let at : slice_get c.args.self.now c.args.b.0 ≡ Some (Choose c.args.test c.in-Choose.a c.in-Choose.second) =
    c.in-Choose.ensures.term ∙ ap (λ (i : TermId). Some (Choose i c.in-Choose.a c.in-Choose.second)) e in
    choose_again_second c.args.self.now c.in-Choose.ensures.fitting c.args.test c.args.a c.args.b c.in-Choose.a c.in-Choose.second c.requires at

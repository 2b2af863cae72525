use Rattle.std.proofs.Common.{◌==◌, ap, ◌∙◌}
use Rattle.sym_terms.specs.Terms.{value}
use Rattle.value_terms.proofs.MadeLaws.{bit_of_truth, test_of, test_later}
use Rattle.value_terms.proofs.made.equals.Goals as goal

pub returns : goal.returns
returns c = test_later c.args.terms.now c.constant.new.terms c.apply.new.terms _ _ _ c.in_ok-number.ensures.grown
    (test_of c.constant.new.terms c.apply.new.terms _ _ _ c.in_ok-id.ensures (λ inputs. bit_of_truth _))
    (λ inputs. ap (λ w. w.value == (value c.constant.new.terms inputs c.in_ok-number.number.0).value) (c.in_ok-number.ensures.grown.keeps.values_kept inputs c.args.a.0 c.requires.inside)
    ∙ ap (λ w. (value c.args.terms.now inputs c.args.a.0).value == w.value) (c.in_ok-number.ensures.value_is inputs))

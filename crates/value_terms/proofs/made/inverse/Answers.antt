use Rattle.value_terms.proofs.MadeLaws.{test_inverse}
use Rattle.value_terms.proofs.made.inverse.Goals as goal

pub returns : goal.returns
returns c = test_inverse c.args.terms.now c.apply.new.terms c.args.a.0 _ c.requires c.term-a.ensures.values c.in_ok-id.ensures

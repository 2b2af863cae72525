use Rattle.value_terms.proofs.MadeLaws.{test_both}
use Rattle.value_terms.proofs.made.both.Goals as goal

pub returns : goal.returns
returns c = test_both c.args.terms.now c.apply.new.terms c.args.a.0 c.args.b.0 _ c.requires.a_bit c.requires.b_bit c.term-a.ensures.values c.term-b.ensures.values c.in_ok-id.ensures

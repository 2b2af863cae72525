use Rattle.value_terms.proofs.MadeLaws.{test_either}
use Rattle.value_terms.proofs.made.either.Goals as goal

pub returns : goal.returns
returns c = test_either c.args.terms.now c.apply.new.terms c.args.a.0 c.args.b.0 _ c.requires.a_bit c.requires.b_bit c.term-a.ensures.values c.term-b.ensures.values c.in_ok-id.ensures

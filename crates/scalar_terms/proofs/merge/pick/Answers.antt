use Rattle.value_terms.proofs.MadeLaws.{bit_kept, grown_trans}
use Rattle.value_terms.proofs.RvalueLaws.{inside_kept}
use Rattle.scalar_terms.proofs.MergeLaws.{pair_kept, picked_made}
use Rattle.scalar_terms.proofs.merge.pick.Goals as goal

pub choose-requires-2-clause-test : goal.choose-requires-2-clause-test
choose-requires-2-clause-test c = bit_kept c.args.terms.now c.choose.new.terms _ c.in_ok-set.ensures.grown.keeps c.requires.test

pub choose-requires-2-clause-widths : goal.choose-requires-2-clause-widths
choose-requires-2-clause-widths c = (pair_kept c.args.terms.now c.choose.new.terms c.args.a c.args.b c.in_ok-set.ensures.grown.keeps c.requires.pair).widths

pub choose-requires-2-clause-a_inside : goal.choose-requires-2-clause-a_inside
choose-requires-2-clause-a_inside c = inside_kept c.args.terms.now c.choose.new.terms _ c.in_ok-set.ensures.grown.keeps c.requires.pair.a_inside

pub choose-requires-2-clause-b_inside : goal.choose-requires-2-clause-b_inside
choose-requires-2-clause-b_inside c = inside_kept c.args.terms.now c.choose.new.terms _ c.in_ok-set.ensures.grown.keeps c.requires.pair.b_inside

pub returns-clause-grown : goal.returns-clause-grown
returns-clause-grown c = grown_trans c.args.terms.now c.choose.new.terms c.choose-2.new.terms c.in_ok-set.ensures.grown c.in_ok-word.ensures.grown

pub returns-clause-picked : goal.returns-clause-picked
returns-clause-picked c = picked_made c.args.terms.now c.choose.new.terms c.choose-2.new.terms c.args.test.0 c.args.a c.args.b _ c.requires.test c.requires.pair c.in_ok-set.ensures c.in_ok-word.ensures

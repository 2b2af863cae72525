use Rattle.std.proofs.Common.{◌≤◌, arith, length}
use Rattle.value_terms.proofs.OperatorLaws.{fits_later, operator_made}
use Rattle.value_terms.proofs.operators.operator_terms.Goals as goal

pub word_term-requires-clause-a_inside : goal.word_term-requires-clause-a_inside
word_term-requires-clause-a_inside c = let longer : length c.args.terms.now ≤ length c.lawful_term.new.terms = c.in_ok-lawful.ensures.grown.keeps.longer in omega (arith, c.requires.a_inside)

pub word_term-requires-clause-b_inside : goal.word_term-requires-clause-b_inside
word_term-requires-clause-b_inside c = let longer : length c.args.terms.now ≤ length c.lawful_term.new.terms = c.in_ok-lawful.ensures.grown.keeps.longer in omega (arith, c.requires.b_inside)

pub word_term-requires-clause-fits : goal.word_term-requires-clause-fits
word_term-requires-clause-fits c = fits_later c.args.terms.now c.lawful_term.new.terms c.args.op c.args.a.0 c.args.b.0 c.in_ok-lawful.ensures.grown.keeps c.requires.a_inside c.requires.b_inside c.requires.fits

pub returns : goal.returns
returns c = operator_made c.args.terms.now c.lawful_term.new.terms c.word_term.new.terms c.args.op c.args.signed c.args.a.0 c.args.b.0 _ c.requires.a_inside c.requires.b_inside c.requires.fits c.term-a.ensures.values c.term-b.ensures.values c.in_ok-lawful.ensures c.in_ok-word.ensures

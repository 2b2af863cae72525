use Rattle.scalar_terms.proofs.WayLaws.{split_made}
use Rattle.value_terms.proofs.MadeLaws.{bit_kept, grown_trans}
use Rattle.scalar_terms.proofs.ways.split_guard.Goals as goal

pub both-requires-clause-a_bit : goal.both-requires-clause-a_bit
both-requires-clause-a_bit c = bit_kept c.args.terms.now c.but_not.new.terms _ c.in_ok-unset.ensures.grown.keeps c.requires.guard

pub both-requires-clause-b_bit : goal.both-requires-clause-b_bit
both-requires-clause-b_bit c = bit_kept c.args.terms.now c.but_not.new.terms _ c.in_ok-unset.ensures.grown.keeps c.requires.first

pub but_not-requires-2-clause-b_bit : goal.but_not-requires-2-clause-b_bit
but_not-requires-2-clause-b_bit c = bit_kept c.args.terms.now c.both.new.terms _ (grown_trans c.args.terms.now c.but_not.new.terms c.both.new.terms c.in_ok-unset.ensures.grown c.in_ok-ready.ensures.grown).keeps c.requires.second

pub both-requires-2-clause-a_bit : goal.both-requires-2-clause-a_bit
both-requires-2-clause-a_bit c = bit_kept c.both.new.terms c.but_not-2.new.terms _ c.in_ok-unlawful.ensures.grown.keeps c.in_ok-ready.ensures.bit

pub both-requires-2-clause-b_bit : goal.both-requires-2-clause-b_bit
both-requires-2-clause-b_bit c = bit_kept c.args.terms.now c.but_not-2.new.terms _ (grown_trans c.args.terms.now c.both.new.terms c.but_not-2.new.terms (grown_trans c.args.terms.now c.but_not.new.terms c.both.new.terms c.in_ok-unset.ensures.grown c.in_ok-ready.ensures.grown) c.in_ok-unlawful.ensures.grown).keeps c.requires.second

pub returns : goal.returns
returns c = split_made c.args.terms.now c.but_not.new.terms c.both.new.terms c.but_not-2.new.terms c.both-2.new.terms c.bit.new.terms c.args.guard.0 c.args.first.0 c.args.second.0 c.in_ok-ready.ready.0 _ c.requires.guard c.requires.first c.requires.second
    c.in_ok-unset.ensures c.in_ok-ready.ensures c.in_ok-unlawful.ensures c.in_ok-goes.ensures c.in_ok-always.ensures

use Rattle.std.proofs.Common.{◌∙◌}
use Rattle.value_terms.proofs.MadeLaws.{bit_kept, grown_trans}
use Rattle.value_terms.proofs.RvalueLaws.{inside_kept}
use Rattle.scalar_terms.proofs.ChoiceLaws.{scalar_made}
use Rattle.scalar_terms.proofs.choices.is_scalar_value.Goals as goal

pub is_below-requires-2-clause-inside : goal.is_below-requires-2-clause-inside
is_below-requires-2-clause-inside c = inside_kept c.args.terms.now c.is_below.new.terms _ c.in_ok-low.ensures.grown.keeps c.requires.inside

pub is_below-requires-2-clause-width : goal.is_below-requires-2-clause-width
is_below-requires-2-clause-width c = c.in_ok-low.ensures.grown.keeps.widths_kept c.args.number.0 c.requires.inside ∙ c.requires.width

pub is_below-requires-3-clause-inside : goal.is_below-requires-3-clause-inside
is_below-requires-3-clause-inside c = inside_kept c.args.terms.now c.is_below-2.new.terms _ (grown_trans c.args.terms.now c.is_below.new.terms c.is_below-2.new.terms c.in_ok-low.ensures.grown c.in_ok-not_high.ensures.grown).keeps c.requires.inside

pub is_below-requires-3-clause-width : goal.is_below-requires-3-clause-width
is_below-requires-3-clause-width c = (grown_trans c.args.terms.now c.is_below.new.terms c.is_below-2.new.terms c.in_ok-low.ensures.grown c.in_ok-not_high.ensures.grown).keeps.widths_kept c.args.number.0 c.requires.inside ∙ c.requires.width

pub but_not-requires-clause-b_bit : goal.but_not-requires-clause-b_bit
but_not-requires-clause-b_bit c = bit_kept c.is_below-2.new.terms c.is_below-3.new.terms _ c.in_ok-inside.ensures.grown.keeps c.in_ok-not_high.ensures.bit

pub either-requires-clause-a_bit : goal.either-requires-clause-a_bit
either-requires-clause-a_bit c = bit_kept c.is_below.new.terms c.but_not.new.terms _ (grown_trans c.is_below.new.terms c.is_below-2.new.terms c.but_not.new.terms c.in_ok-not_high.ensures.grown (grown_trans c.is_below-2.new.terms c.is_below-3.new.terms c.but_not.new.terms c.in_ok-inside.ensures.grown c.in_ok-high.ensures.grown)).keeps c.in_ok-low.ensures.bit

pub returns : goal.returns
returns c = scalar_made c.args.terms.now c.is_below.new.terms c.is_below-2.new.terms c.is_below-3.new.terms c.but_not.new.terms c.either.new.terms c.args.number.0 _ _ _ _ _ c.requires.inside c.in_ok-low.ensures c.in_ok-not_high.ensures c.in_ok-inside.ensures c.in_ok-high.ensures c.in_ok-id.ensures

use Rattle.std.proofs.Common.{ap, ◌∙◌}
use Rattle.scalar_runs.specs.Kinds.{width_of_kind}
use Rattle.scalar_terms.proofs.ChoiceLaws.{bits_made, char_made, plain_bits}
use Rattle.scalar_terms.proofs.choices.is_value.Goals as goal

pub is_scalar_value-requires-clause-width : goal.is_scalar_value-requires-clause-width
is_scalar_value-requires-clause-width c = c.requires.width ∙ ap width_of_kind c.in-Char.is

pub returns-in_ok-id-in-Char : goal.returns-in_ok-id-in-Char
returns-in_ok-id-in-Char c = char_made c.args.terms.now c.is_scalar_value.new.terms c.args.word.0 _ c.args.kind c.in-Char.is c.requires.width c.term-known.ensures.values c.in_ok-id-in-Char.ensures

pub returns-in_ok-id-in_default : goal.returns-in_ok-id-in_default
returns-in_ok-id-in_default c = bits_made c.args.terms.now c.bit.new.terms c.args.word.0 _ c.args.kind (plain_bits c.args.kind c.in_default.not-Char) c.requires.width c.term-known.ensures.values c.in_ok-id-in_default.ensures
